use Rattle.can_gates_mac.proofs.ShownFields.{same_numbers}
use Rattle.can_gates.proofs.Constants.{value-never, value-always}
use Rattle.can_gates_mac.proofs.senses.Senses.lacks_acknowledgement.Goals as goal

pub returns : goal.returns
returns c = λ v s p waiting x k.
    let no = value-never v k.never in
    let yes_is = value-always v k.never in
    same_numbers v _ _ (c.of.ensures v k.never) (c.of-2.ensures v k.never) yes_is yes_is no k.sender k.pending k.used (c.of-3.ensures v k.never) (c.of-4.ensures v k.never)
