use Rattle.kit_documents.proofs.LevelStrings.{AreReadStrings}
use Rattle.kit_documents.proofs.strings.read_strings.Given as goal

abbrev pub invariant-loop-place : goal.invariant-loop-place
invariant-loop-place l = AreReadStrings l.values l.most l.place l.levels.items
