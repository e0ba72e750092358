use Rattle.can_gates_mac.proofs.ShownFields.{same_numbers}
use Rattle.can_gates.proofs.Constants.{value-never}
use Rattle.can_gates_mac.proofs.senses.Senses.goes.Goals as goal

pub returns : goal.returns
returns c = λ v s p waiting x k n is.
    let no = value-never v k.never in
    same_numbers v _ _ (c.of.ensures v k.never) is no no no k.sender k.pending k.used (c.of-2.ensures v k.never) (c.of-3.ensures v k.never)
