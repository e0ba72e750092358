use Rattle.std.proofs.Common.{refl, ◌∙◌}
use Rattle.can_gates.specs.Circuit.{value}
use Rattle.can_gates.proofs.Constants.{value-never}
use Rattle.can_gates_mac.proofs.NibbleBits.{nibble_is}
use Rattle.can_gates_mac.proofs.Recovering.{event_bits}
use Rattle.can_gates_mac.proofs.recovery.rest_event.Goals as goal

pub returns : goal.returns
returns c = λ v zero_is. nibble_is v _ _ _ _ _ refl refl (value-never v zero_is) refl ∙ event_bits (value v c.args.ended)
