use Rattle.kit_documents.proofs.ReadPieces.{AreRead}
use Rattle.kit_documents.proofs.words.reading.read_digits.Given as goal

abbrev pub invariant-loop-digit : goal.invariant-loop-digit
invariant-loop-digit l = AreRead l.digits l.digit-index l.most l.fn.levels.items l.levels.items
