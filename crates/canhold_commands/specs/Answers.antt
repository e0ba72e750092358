-- The output of each subcommand for its input, for each outcome. (docs/CONFORMANCE.md, "Line by line",
-- "What is expected", "What is judged")
use Rattle.std.specs.Prelude.{ℕ, ◌≡◌, ◌⊎◌, ◌==◌, if◌then◌else◌, List, Result, Ok, Err}
use Rattle.toml.specs.Data.{Data}
use Rattle.canhold_commands.specs.Plays.{Plays}
use Rattle.canhold_commands.specs.Documents.{document_demands, IsWrongKitField}
use Rattle.canhold_commands.specs.Expectations.{cases_alone_demands, IsExpected}
use Rattle.canhold_commands.specs.Judgements.{IsJudged}
use Rattle.can_program.specs.Written.{WritesBeginning, WritesNothing}
use Rattle.can_stream.specs.declared.fault.TraceFault.TheVariants.{Read, Write, Memory}
use Rattle.kit_documents.specs.declared.field.KitField.{KitField}
use Rattle.document_values.specs.Demands.{Demands}
use Rattle.canhold_commands.specs.declared.tally.Tally.{Tally}
use Rattle.canhold_commands.specs.Counts.{cases_in}
use Rattle.canhold_commands.specs.declared.answering.Finding.{Finding}
use Rattle.canhold_commands.specs.declared.answering.Finding.TheVariants.{Agree, Differ, Nothing}
use Rattle.canhold_commands.specs.declared.fault.CanholdFault.{CanholdFault}
use Rattle.canhold_commands.specs.declared.fault.CanholdFault.TheVariants.{Field, NothingJudged, Stream, TranscriptsDiffer}
use Rattle.canhold_commands.specs.declared.words.Chosen.{Chosen}
use Rattle.canhold_commands.specs.declared.words.Chosen.TheVariants.{Play, Document}
use Rattle.canhold_commands.specs.declared.words.Question.{Question}
use Rattle.canhold_commands.specs.declared.words.Question.TheVariants.{Expect, Judge}

-- ---- lines of a runner

-- The reference has played the runner's lines, with this outcome.
abbrev pub PlaysLines : Result (Unit {0}) CanholdFault → List ℕ → List ℕ → Type 0
PlaysLines (Ok done) input output = Plays (Ok done) input output
PlaysLines (Err (Stream fault)) input output = Plays (Err fault) input output
PlaysLines (Err (Field wrong)) input output = ⊥
PlaysLines (Err TranscriptsDiffer) input output = ⊥
PlaysLines (Err NothingJudged) input output = ⊥

-- ---- documents

-- The result for verdicts of this count: there are none, none failed, or some failed.
abbrev pub finding_of : Tally → Finding
finding_of tally = if cases_in tally == 0 then Nothing else (if tally.failed == 0 then Agree else Differ)

-- The output is complete for a document, which has this result.
abbrev pub AnswersSo : Question → Finding → List ℕ → List ℕ → Type 0
AnswersSo Expect finding input output = IsExpected input output × (finding ≡ Agree)
AnswersSo Judge finding input output =
    (tally : Tally) × IsJudged input output tally × (finding ≡ finding_of tally)

-- The output is complete for a document, whatever its result.
abbrev pub Answers : Question → List ℕ → List ℕ → Type 0
Answers question input output = (finding : Finding) × AnswersSo question finding input output

-- the demands on the document
abbrev pub demands_of : Question → Data → Demands KitField
demands_of Expect = cases_alone_demands
demands_of Judge = document_demands

-- The document is refused for this field, and nothing is written.
abbrev pub RefusesDocument : Question → KitField → List ℕ → List ℕ → Type 0
RefusesDocument question wrong input output =
    IsWrongKitField (demands_of question) wrong input × WritesNothing input output

-- A field is invalid, or an allocation failed.
abbrev pub IsKitFault : CanholdFault → Type 0
IsKitFault fault = ((wrong : KitField) × (fault ≡ Field wrong)) ⊎ (fault ≡ Stream Memory)

-- The output for a document, for each outcome.
abbrev pub AnswersDocument : Question → Result (Unit {0}) CanholdFault → List ℕ → List ℕ → Type 0
AnswersDocument question (Ok done) = AnswersSo question Agree
AnswersDocument question (Err (Field wrong)) = RefusesDocument question wrong
AnswersDocument question (Err TranscriptsDiffer) = AnswersSo question Differ
AnswersDocument question (Err NothingJudged) = AnswersSo question Nothing
AnswersDocument question (Err (Stream Read)) = WritesNothing
AnswersDocument question (Err (Stream Write)) = WritesBeginning (Answers question)
AnswersDocument question (Err (Stream Memory)) = WritesNothing
AnswersDocument question (Err (Stream _)) = λ input output. ⊥

-- The output of a subcommand for its input, for this outcome.
abbrev pub DoesChosen : Chosen → Result (Unit {0}) CanholdFault → List ℕ → List ℕ → Type 0
DoesChosen Play = PlaysLines
DoesChosen (Document question) = AnswersDocument question
