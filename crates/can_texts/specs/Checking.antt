-- The effect of checking one line, and the output when all lines are done or a fault occurred.
use Rattle.std.specs.Prelude.{◌≡◌, ◌⊎◌, ℕ, ◌+◌, ◌^◌, ◌<◌, Bool, true, false, List, [], Option, Result, Ok, Err}
use Rattle.std.specs.Io.KnownBytes.{Keeps}
use Rattle.can_stream.specs.declared.fault.TraceFault.{TraceFault}
use Rattle.can_stream.specs.declared.fault.TraceFault.TheVariants.{BadByte, Read, Write, Long, FrameLine, ScenarioField, Memory}
use Rattle.can_texts.specs.declared.lines.vector.Verdict.{Verdict}
use Rattle.can_stream.specs.Outbox.{PassesOn, TakesFront}
use Rattle.can_texts.specs.Checked.{passed_by, vector_verdict_line, BeginsChecking, ChecksEnded, ChecksTooLong, IsBadLevelByte, IsBadVectorLine, IsFirstBadByte, IsFirstBadVectorLine, IsVectorVerdict}

-- whether the fault is a bad byte
abbrev pub is_bad_byte : TraceFault → Bool
is_bad_byte (BadByte place) = true
is_bad_byte Read = false
is_bad_byte Write = false
is_bad_byte Long = false
is_bad_byte (FrameLine line fault) = false
is_bad_byte (ScenarioField wrong) = false
is_bad_byte Memory = false

-- the line has a verdict, whose output line was appended to the buffer, and `passed` is 1 if it passes, otherwise 0
pub record Judges (line : List ℕ) (passed : ℕ) (held holds : Option (List ℕ)) (old new : List ℕ) : Type 0 where
  pub verdict : Verdict
  pub is_verdict : IsVectorVerdict line verdict
  pub passed_is : passed ≡ passed_by verdict
  pub put : PassesOn held holds old new (vector_verdict_line verdict)

-- this place of the input is that of a bad byte of the line that begins at `start`
pub record IsBadAt (start : ℕ) (line : List ℕ) (place : ℕ) : Type 0 where
  pub place_in_line : ℕ
  pub is_bad : IsBadLevelByte line place_in_line
  pub place_is : place ≡ start + place_in_line

-- The line with this number, which begins at this place of the input, has no verdict: the writer failed, or the line is
-- bad.
abbrev pub FailsToCheck : TraceFault → ℕ → ℕ → List ℕ → Option (List ℕ) → Option (List ℕ) → List ℕ → List ℕ → Type 0
FailsToCheck Write number start line held holds old new = TakesFront held holds old × (new ≡ [])
FailsToCheck (FrameLine n fault) number start line held holds old new = (n ≡ number) × IsBadVectorLine fault line × Keeps held holds × (new ≡ old)
FailsToCheck (BadByte place) number start line held holds old new = IsBadAt start line place × Keeps held holds × (new ≡ old)
FailsToCheck Read number start line held holds old new = ⊥
FailsToCheck Long number start line held holds old new = ⊥
FailsToCheck (ScenarioField wrong) number start line held holds old new = ⊥
FailsToCheck Memory number start line held holds old new = ⊥

-- no byte of the line is bad
abbrev pub IsUnbroken : List ℕ → Type 0
IsUnbroken line = (place : ℕ) → ¬ IsBadLevelByte line place

-- the fault if reading stops in a line: that of a bad byte if the line has one, otherwise this one
abbrev pub IsOpenFault : ℕ → List ℕ → TraceFault → TraceFault → Type 0
IsOpenFault start line fault result = ((place : ℕ) × (result ≡ BadByte place) × IsBadAt start line place) ⊎ ((result ≡ fault) × IsUnbroken line)

-- Why reading stops in a line that begins at this place of the input: it has a bad byte, a read failed, more than 2^63
-- bytes were read, or the writer failed before a read.
abbrev pub StopsChecking : TraceFault → ℕ → List ℕ → Bool → ℕ → Type 0
StopsChecking (BadByte place) start line failed taken = IsBadAt start line place
StopsChecking Read start line failed taken = (failed ≡ true) × IsUnbroken line
StopsChecking Long start line failed taken = (failed ≡ false) × (2 ^ 63 < taken) × IsUnbroken line
StopsChecking Write start line failed taken = failed ≡ false
StopsChecking (FrameLine n fault) start line failed taken = ⊥
StopsChecking (ScenarioField wrong) start line failed taken = ⊥
StopsChecking Memory start line failed taken = ⊥

-- The output for the input, if a call ends with this result. `Whole` is that of a complete run.
abbrev pub Comes : (ℕ → ℕ → List ℕ → List ℕ → Type 0) → Result (ℕ × ℕ) TraceFault → Bool → List ℕ → List ℕ → Type 0
Comes Whole (Ok tally) reader_ended = Whole tally.0 tally.1
Comes Whole (Err (BadByte place)) reader_ended = IsFirstBadByte place
Comes Whole (Err Read) reader_ended = ChecksEnded
Comes Whole (Err Write) reader_ended = BeginsChecking reader_ended
Comes Whole (Err Long) reader_ended = ChecksTooLong
Comes Whole (Err (FrameLine n fault)) reader_ended = IsFirstBadVectorLine n fault reader_ended
Comes Whole (Err (ScenarioField wrong)) reader_ended = λ input output. ⊥
Comes Whole (Err Memory) reader_ended = λ input output. ⊥
