use Rattle.std.proofs.Common.{refl, ◌∙◌}
use Rattle.can_gates.specs.Circuit.{value}
use Rattle.can_gates.proofs.Constants.{value-never, value-always}
use Rattle.can_gates_mac.proofs.NibbleBits.{nibble_is, error_cause_bits}
use Rattle.can_gates_mac.proofs.leaves.error_cause_of.Goals as goal

pub returns : goal.returns
returns c = λ v zero_is.
    let no = value-never v zero_is in
    nibble_is v _ _ _ _ _ (value-always v zero_is) refl no no ∙ error_cause_bits (value v c.args.sender)
