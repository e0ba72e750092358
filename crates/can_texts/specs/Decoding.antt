-- Contracts of the steps that decode a trace.
use Rattle.std.specs.Prelude.{◌≡◌, ℕ, ◌+◌, ◌<◌, true, false, ◌≤◌, List, [], ◌∷◌, ◌++◌, length, filter, map, replicate, take, Option, Some, None, Result, Ok, Err}
use Rattle.std.specs.List.{flat_map, AllByRecursion}
use Rattle.can_frame.specs.IdleRow.{idle_row}
use Rattle.can_frame.specs.declared.level.Level.{Level}
use Rattle.can_frame.specs.declared.level.Level.TheVariants.{Dominant, Recessive}
use Rattle.can_frame.specs.Levels.{digit_of}
use Rattle.can_code.specs.Decoder.{DecoderParts, HasHeard}
use Rattle.can_texts.specs.TraceText.{IsTraceText, is_trace_byte, levels_in}
use Rattle.can_texts.specs.Decoded.{Finds, SkipsToIdle, finding_line, is_closed, BeginsDecoding, DecodesAll, DecodesSoFar, DecodesToBadByte, DecodesTooLong}
use Rattle.can_stream.specs.Outbox.{PassesOn, TakesFront}
use Rattle.can_stream.specs.declared.fault.TraceFault.{TraceFault}
use Rattle.can_stream.specs.declared.fault.TraceFault.TheVariants.{BadByte, Read, Write, Long, FrameLine, ScenarioField, Memory}
use Rattle.can_texts.specs.declared.traces.finding.Finding.{Finding}
use Rattle.can_texts.specs.declared.traces.gathered.Gathered.{Gathered}
use Rattle.can_texts.specs.declared.traces.trace.Trace.{Trace}
use Rattle.can_texts.specs.declared.traces.trace.State.{State}
use Rattle.can_texts.specs.declared.traces.trace.State.TheVariants.{Idle, InFrame, Lost}

-- ---- levels

-- These findings are those of the levels so far, whatever is found after them.
abbrev pub GoesOn : List Level → List Finding → Type 0
GoesOn done told = (more : List Level) (found : List Finding) → Finds (length done) more found → Finds 0 (done ++ more) (told ++ found)

-- This if, after the levels that are done, the search for eleven recessive levels is going on, and has taken the levels
-- `begun`.
abbrev pub SearchesOn : List Level → List Level → List Finding → Type 0
SearchesOn begun done told = (more skipped rest : List Level) (found : List Finding) → begun ++ more ≡ skipped ++ rest → SkipsToIdle skipped rest
    → Finds (length (done ++ skipped)) rest found → Finds 0 (done ++ (skipped ++ rest)) (told ++ found)

-- a frame began after the levels that are done, and its decoder has taken the levels since then
pub record IsInFrame (start : ℕ) (decoder : DecoderParts) (levels : List Level) (told : List Finding) : Type 0 where
  pub done : List Level
  pub others : List Level
  pub heard : HasHeard decoder (Dominant ∷ others)
  pub levels_are : levels ≡ done ++ Dominant ∷ others
  pub start_is : start ≡ length done
  pub goes_on : GoesOn done told

-- `row` recessive levels, fewer than eleven, follow the levels that are done, in which a fault was reported
pub record IsLost (row : ℕ) (levels : List Level) (told : List Finding) : Type 0 where
  pub done : List Level
  pub few : row < idle_row
  pub levels_are : levels ≡ done ++ replicate row Recessive
  pub searches_on : SearchesOn (replicate row Recessive) done told

-- digits of levels, with which the search goes from one row length to the other
pub record Searches (row : ℕ) (digits : List ℕ) (row_now : ℕ) : Type 0 where
  pub is_text : IsTraceText digits
  pub all : length (levels_in digits) ≡ length digits
  pub lost : (levels : List Level) (told : List Finding) → IsLost row levels told → IsLost row_now (levels ++ levels_in digits) told

-- the relation of the levels taken so far and their findings to the state of the trace
abbrev pub Stands : State → List Level → List Finding → Type 0
Stands Idle levels told = GoesOn levels told
Stands (InFrame start decoder) levels told = IsInFrame start decoder levels told
Stands (Lost row) levels told = IsLost row levels told

-- the trace has taken these levels, with these findings
pub record Hearing (trace : Trace) (levels : List Level) (told : List Finding) : Type 0 where
  pub place_is : trace.place ≡ length levels
  pub stands : Stands trace.state levels told
  pub closed : AllByRecursion (λ finding. is_closed finding ≡ true) told

-- the trace took these further levels, with these findings
abbrev pub Hears : Trace → Trace → List Level → List Finding → Type 0
Hears old new more found = (levels : List Level) (told : List Finding) → Hearing old levels told → Hearing new (levels ++ more) (told ++ found)

-- the findings that a call returned
abbrev pub told_of : Option Finding → List Finding
told_of (Some finding) = finding ∷ []
told_of None = []

-- what is found if no more levels come; no closed line is left to be reported
pub record EndsWith (levels : List Level) (told found : List Finding) : Type 0 where
  pub finds : Finds 0 levels (told ++ found)
  pub unclosed : filter is_closed found ≡ []

-- ---- bytes

-- bytes of trace text that are not levels
abbrev pub AreSkipped : List ℕ → Type 0
AreSkipped bytes = IsTraceText bytes × (levels_in bytes ≡ [])

-- bytes that are the digits of levels
abbrev pub AreDigits : List ℕ → Type 0
AreDigits bytes = bytes ≡ map digit_of (levels_in bytes)

-- the digits of the first bytes, which are trace text, are at the front of the buffer
pub record Gathers (bytes : List ℕ) (g : Gathered) (buffer : List ℕ) : Type 0 where
  pub within : g.taken ≤ length bytes
  pub room : g.count ≤ length buffer
  pub text : IsTraceText (take g.taken bytes)
  pub digits_are : take g.count buffer ≡ map digit_of (levels_in (take g.taken bytes))

-- the bytes are trace text, and the output lines of its levels were appended to the buffer
pub record HearsText (old new : Trace) (text : List ℕ) (held holds : Option (List ℕ)) (waiting waiting_now : List ℕ) : Type 0 where
  pub found : List Finding
  pub is_text : IsTraceText text
  pub hears : Hears old new (levels_in text) found
  pub passes : PassesOn held holds waiting waiting_now (flat_map finding_line found)

-- the bytes begin with trace text, and the writer took a prefix of the pending bytes followed by the output lines of
-- this text
pub record FailsToTell (old new : Trace) (bytes : List ℕ) (held holds : Option (List ℕ)) (waiting : List ℕ) : Type 0 where
  pub text : List ℕ
  pub others : List ℕ
  pub bytes_are : bytes ≡ text ++ others
  pub found : List Finding
  pub is_text : IsTraceText text
  pub hears : Hears old new (levels_in text) found
  pub takes : TakesFront held holds (waiting ++ flat_map finding_line found)

-- why bytes that are trace text were not all decoded: the writer failed
abbrev pub FailsToHear : TraceFault → Trace → Trace → List ℕ → Option (List ℕ) → Option (List ℕ) → List ℕ → List ℕ → Type 0
FailsToHear e old new bytes held holds waiting waiting_now = (e ≡ Write) × FailsToTell old new bytes held holds waiting × (waiting_now ≡ [])

-- the first bad byte follows trace text; it has place `place`, if the bytes begin at place `first`
pub record MeetsBadByte (old new : Trace) (first place : ℕ) (bytes : List ℕ) (held holds : Option (List ℕ)) (waiting waiting_now : List ℕ) : Type 0 where
  pub text : List ℕ
  pub bad : ℕ
  pub others : List ℕ
  pub bytes_are : bytes ≡ text ++ bad ∷ others
  pub is_bad : is_trace_byte bad ≡ false
  pub place_is : place ≡ first + length text
  pub hears : HearsText old new text held holds waiting waiting_now

-- why the bytes, the first of which has this place in the input, were not all decoded
abbrev pub StopsHearing : TraceFault → Trace → Trace → ℕ → List ℕ → Option (List ℕ) → Option (List ℕ) → List ℕ → List ℕ → Type 0
StopsHearing Write old new first bytes held holds waiting waiting_now = FailsToTell old new bytes held holds waiting × (waiting_now ≡ [])
StopsHearing (BadByte place) old new first bytes held holds waiting waiting_now = MeetsBadByte old new first place bytes held holds waiting waiting_now
StopsHearing Read old new first bytes held holds waiting waiting_now = ⊥
StopsHearing Long old new first bytes held holds waiting waiting_now = ⊥
StopsHearing (FrameLine n fault) old new first bytes held holds waiting waiting_now = ⊥
StopsHearing (ScenarioField wrong) old new first bytes held holds waiting waiting_now = ⊥
StopsHearing Memory old new first bytes held holds waiting waiting_now = ⊥

-- ---- the whole input

-- The output for the input, if a call ends with this result.
abbrev pub Decodes : {A : Type 0} → Result A TraceFault → List ℕ → List ℕ → Type 0
Decodes (Ok done) = DecodesAll
Decodes (Err (BadByte place)) = DecodesToBadByte place
Decodes (Err Read) = λ input output. DecodesSoFar input output × BeginsDecoding input output
Decodes (Err Write) = BeginsDecoding
Decodes (Err Long) = DecodesTooLong
Decodes (Err (FrameLine n fault)) = λ input output. ⊥
Decodes (Err (ScenarioField wrong)) = λ input output. ⊥
Decodes (Err Memory) = λ input output. ⊥
