use Rattle.can_gates_mac.proofs.ShownFields.{same_numbers}
use Rattle.can_gates.proofs.Constants.{value-never}
use Rattle.can_gates_mac.proofs.senses.Senses.own_overload.Goals as goal

pub returns : goal.returns
returns c = λ v s p waiting x k below.
    let no = value-never v k.never in
    same_numbers v _ _ (c.of.ensures v k.never) (c.of-2.ensures v k.never) no no no k.sender (rw k.pending at (c.fewer_than.ensures v k.never (rw k.pending k.few))) (rw k.used at (c.more_than.ensures v k.never (rw k.used below))) (c.of-3.ensures v k.never) (c.of-4.ensures v k.never)
