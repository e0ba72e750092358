use Rattle.std.proofs.Common.{refl, ◌∙◌}
use Rattle.can_gates.specs.Circuit.{value}
use Rattle.can_gates_mac.proofs.NibbleBits.{nibble_is, flag_bits}
use Rattle.can_gates_mac.proofs.leaves.flag_of.Goals as goal

pub returns : goal.returns
returns c = λ v zero_is. nibble_is v _ _ _ _ _ (c.opposite.ensures.value v) (c.opposite-2.ensures.value v) (c.opposite-3.ensures.value v) refl ∙ flag_bits (value v c.args.passive)
