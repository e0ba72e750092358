use Rattle.can_node.proofs.either.EitherNodePort.poised.Goals as goal

pub returns-in-Plain-clause-no : goal.returns-in-Plain-clause-no
returns-in-Plain-clause-no c = rw c.in-Plain.is c.poised.ensures.no

pub returns-in-Packed-clause-no : goal.returns-in-Packed-clause-no
returns-in-Packed-clause-no c = rw c.in-Packed.is c.poised-in-Packed.ensures.no
