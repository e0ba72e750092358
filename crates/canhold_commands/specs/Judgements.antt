-- What `canhold judge` writes: a line for each transcript of the document, and the count.
-- (docs/CONFORMANCE.md, "What is judged")
use Rattle.std.specs.Prelude.{ℕ, ◌≡◌, ◌==◌, ◌+◌, Bool, not, List, [], ◌∷◌, ◌++◌, count_by, length, Some}
use Rattle.std.specs.List.{list_any, range_with_len, slice_get}
use Rattle.std.specs.String.{string_bytes}
use Rattle.can_conform.specs.declared.judging.Verdict.{Verdict}
use Rattle.can_conform.specs.declared.judging.Verdict.TheVariants.{Pass, Fail}
use Rattle.can_conform.specs.Verdicts.{IsVerdict}
use Rattle.kit_documents.specs.declared.cases.case.Case.{Case}
use Rattle.kit_documents.specs.declared.transcripts.told.Told.{Told}
use Rattle.canhold_commands.specs.declared.tally.Tally.{Tally}
use Rattle.canhold_commands.specs.Counts.{cases_in, count_line}
use Rattle.canhold_commands.specs.Verdicts.{verdict_line}
use Rattle.canhold_commands.specs.declared.document.Document.{Document}
use Rattle.canhold_commands.specs.Documents.{IsKitText}

-- ---- the count

-- no transcript is counted
abbrev pub no_cases : Tally
no_cases = record { passed = 0; failed = 0; void = 0; skipped = 0 }

-- one more transcript has this verdict
abbrev pub with_verdict : Tally → Verdict → Tally
with_verdict tally Pass = record tally { passed = tally.passed + 1 }
with_verdict tally (Fail failure) = record tally { failed = tally.failed + 1 }

-- One of the transcripts belongs to the case with this number.
abbrev pub has_one : List Told → ℕ → Bool
has_one transcripts place = list_any (λ told. told.case == place) transcripts

-- the number of the document's cases without a transcript
abbrev pub cases_without : Document → ℕ
cases_without document =
    count_by (λ place. not (has_one document.transcripts.items place))
    (range_with_len 0 (length document.cases.items))

-- ---- the lines

-- The text that is written, and the number of transcripts with each verdict.
pub record Lines : Type 0 where
  pub text : List ℕ
  pub tally : Tally

-- this text and this count
abbrev pub lines_with : List ℕ → Tally → Lines
lines_with text tally = record { text = text; tally = tally }

-- These lines are followed by that of the verdict on this transcript of this case, which is counted.
pub record AddsVerdict (case : Case) (told : Told) (before after : Lines) : Type 0 where
  pub verdict : Verdict
  pub judged : IsVerdict case.script told.transcript verdict
  pub line : after.text ≡ before.text ++ verdict_line (string_bytes case.name) case.choices.items verdict
  pub count : after.tally ≡ with_verdict before.tally verdict

-- These lines are followed by such a line for each transcript, each of one of these cases, in order.
abbrev pub AddVerdicts : List Case → List Told → Lines → Lines → Type 0
AddVerdicts cases [] before after = after ≡ before
AddVerdicts cases (told ∷ transcripts) before after =
    (case : Case) × (slice_get cases told.case ≡ Some case) × (between : Lines)
    × AddsVerdict case told before between × AddVerdicts cases transcripts between after

-- The output is a line for each transcript of the document, followed by the count of their verdicts and of the cases
-- without a transcript.
pub record TellsVerdicts (document : Document) (answer : List ℕ) (tally : Tally) : Type 0 where
  pub lines : List ℕ
  pub verdicts : AddVerdicts document.cases.items document.transcripts.items
      (lines_with [] no_cases) (lines_with lines tally)
  pub each : cases_in tally ≡ length document.transcripts.items
  pub all : answer ≡ lines ++ count_line tally (cases_without document)

-- The bytes are a kit document with this output.
abbrev pub IsJudged : (bytes answer : List ℕ) (tally : Tally) → Type 0
IsJudged bytes answer tally = (document : Document) × IsKitText bytes document × TellsVerdicts document answer tally
