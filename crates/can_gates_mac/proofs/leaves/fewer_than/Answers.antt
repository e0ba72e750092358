use Rattle.std.proofs.Common.{refl, ◌∙◌}
use Rattle.can_gates.proofs.Constants.{value-never}
use Rattle.can_gates_mac.proofs.NibbleBits.{nibble_is, nibble-bits, fewer_bits}
use Rattle.can_gates_mac.proofs.leaves.fewer_than.Goals as goal

pub returns : goal.returns
returns c = λ v zero_is few.
    let no = value-never v zero_is in
    nibble_is v _ _ _ _ _ refl no no no ∙ fewer_bits _ _ _ _ _ (nibble-bits v c.args.pending) few
