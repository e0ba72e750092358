use Rattle.kit_documents.proofs.InTime.{IsReadInTime}
use Rattle.kit_documents.proofs.elements.read_elements.Given as goal

abbrev pub invariant-loop-place : goal.invariant-loop-place
invariant-loop-place g l = IsReadInTime g.T.Element.says l.end l.apart l.values l.place l.least l.read.items
