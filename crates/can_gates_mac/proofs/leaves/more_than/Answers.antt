use Rattle.std.proofs.Common.{refl, ◌∙◌}
use Rattle.std.proofs.lemmas.Bool.{ltb-true}
use Rattle.can_gates.proofs.Constants.{value-never}
use Rattle.can_gates_mac.specs.Nibbles.{nibble}
use Rattle.can_gates_mac.proofs.NibbleBits.{nibble_is, nibble-bits, more_bits}
use Rattle.can_gates_mac.proofs.leaves.more_than.Goals as goal

pub returns : goal.returns
returns c = λ v zero_is few.
    let no = value-never v zero_is in
    nibble_is v _ _ _ _ _ (c.opposite.ensures.value v) refl no no ∙ more_bits _ _ _ _ _ (nibble-bits v c.args.used) (ltb-true (nibble v c.args.used) 2 few)
