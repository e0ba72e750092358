use Rattle.can_gates_mac.proofs.ShownFields.{same_numbers}
use Rattle.can_gates.proofs.Constants.{value-never}
use Rattle.can_gates_mac.proofs.senses.Senses.begins_frame.Goals as goal

pub returns : goal.returns
returns c = λ v s p waiting x k role is.
    let no = value-never v k.never in
    same_numbers v _ _ (c.of.ensures v k.never) (c.of-2.ensures v k.never) no no no is k.pending (c.of-3.ensures v k.never) (c.of-4.ensures v k.never) (c.of-5.ensures v k.never)
