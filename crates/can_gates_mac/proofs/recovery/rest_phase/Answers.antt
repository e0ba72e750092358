use Rattle.std.proofs.Common.{◌∙◌}
use Rattle.can_gates.specs.Circuit.{value}
use Rattle.can_gates.proofs.Constants.{value-never}
use Rattle.can_gates_mac.proofs.NibbleBits.{nibble_is}
use Rattle.can_gates_mac.proofs.Recovering.{phase_bits}
use Rattle.can_gates_mac.proofs.recovery.rest_phase.Goals as goal

pub returns : goal.returns
returns c = λ v zero_is. nibble_is v _ _ _ _ _ (value-never v zero_is) (c.opposite.ensures.value v) (c.opposite-2.ensures.value v) (c.opposite-3.ensures.value v) ∙ phase_bits (value v c.args.ended)
