use Rattle.std.proofs.Common.{◌∙◌}
use Rattle.can_gates.specs.Circuit.{value}
use Rattle.can_gates.proofs.Constants.{value-never, value-always}
use Rattle.can_gates_mac.proofs.NibbleBits.{nibble_is, form_kind_bits}
use Rattle.can_gates_mac.proofs.leaves.form_kind_of.Goals as goal

pub returns : goal.returns
returns c = λ v zero_is. nibble_is v _ _ _ _ _ (c.opposite.ensures.value v) (c.opposite-2.ensures.value v) (value-always v zero_is) (value-never v zero_is) ∙ form_kind_bits (value v c.args.sender)
