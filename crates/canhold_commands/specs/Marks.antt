-- Marks for the cases that have a transcript.
use Rattle.std.specs.Prelude.{Bool, true, List, [], ◌∷◌, set}
use Rattle.kit_documents.specs.declared.transcripts.told.Told.{Told}

-- The marks, set also at the numbers of these transcripts' cases.
abbrev pub with_marks : List Told → List Bool → List Bool
with_marks [] marks = marks
with_marks (told ∷ transcripts) marks = with_marks transcripts (set marks told.case true)
