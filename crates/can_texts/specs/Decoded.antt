-- The output for a trace: a line for each frame and for each fault. (docs/FORMATS.md, "`canbit decode`";
-- docs/FRAMES.md, "Decoding")
use Rattle.std.specs.Prelude.{◌≡◌, ◌≢◌, ℕ, ◌+◌, ◌^◌, ◌<◌, ◌≤◌, if◌then◌else◌, Bool, true, false, not, List, [], ◌∷◌, ◌++◌, length, filter, replicate, codes, decimal}
use Rattle.std.specs.List.{flat_map}
use Rattle.can_frame.specs.IdleRow.{idle_row}
use Rattle.can_frame.specs.declared.level.Level.{Level}
use Rattle.can_frame.specs.declared.level.Level.TheVariants.{Dominant, Recessive}
use Rattle.can_frame.specs.Levels.{is_recessive}
use Rattle.can_frame.specs.Text.{frame_text}
use Rattle.can_code.specs.declared.fault.CodeFaultKind.{CodeFaultKind}
use Rattle.can_code.specs.declared.fault.CodeFaultKind.TheVariants.{Short, NoStartOfFrame, Stuff, Crc, Form}
use Rattle.can_wire.specs.Heard.{HeardParts, Spells}
use Rattle.can_code.specs.CodeFaults.{IsCodeFault}
use Rattle.can_texts.specs.TraceText.{IsTraceText, IsFirstBadTraceByte, levels_in}
use Rattle.can_texts.specs.declared.traces.finding.Finding.{Finding}
use Rattle.can_texts.specs.declared.traces.finding.Finding.TheVariants.{Frame, Fault}

-- ---- frames and faults in levels

-- the last eleven levels are recessive
abbrev pub EndsIdle : List Level → Type 0
EndsIdle levels = (front : List Level) × (levels ≡ front ++ replicate idle_row Recessive)

-- The skipped levels end with the first eleven consecutive recessive ones of the skipped levels and the rest. If there
-- are no such eleven, all are skipped.
pub record SkipsToIdle (skipped rest : List Level) : Type 0 where
  pub idle : rest ≢ [] → EndsIdle skipped
  pub first : (front more : List Level) → skipped ≡ front ++ more → more ≢ [] → EndsIdle front → ⊥

-- the frames and faults in the levels, the first of which has this place in the trace
pub data Finds : ℕ → List Level → List Finding → Type 0 where
  -- no levels are left
  over : (place : ℕ) → Finds place [] []
  -- between frames recessive levels are skipped
  idle : (place : ℕ) (rest : List Level) (found : List Finding)
      → Finds (place + 1) rest found → Finds place (Recessive ∷ rest) found
  -- the levels begin with the encoding of a frame; go on after it
  frame : (place : ℕ) (h : HeardParts) (w rest : List Level) (found : List Finding) → Spells h w
      → Finds (place + length w) rest found → Finds place (w ++ rest) (Frame place h ∷ found)
  -- a dominant level begins no frame: the fault; go on after eleven recessive levels from the fault on
  fault : (place : ℕ) (levels front skipped rest : List Level) (kind : CodeFaultKind) (found : List Finding)
      → Dominant ∷ levels ≡ front ++ (skipped ++ rest)
      → IsCodeFault (Dominant ∷ levels) (record { kind = kind; place = length front })
      → SkipsToIdle skipped rest
      → Finds (place + length (front ++ skipped)) rest found
      → Finds place (Dominant ∷ levels) (Fault place kind (place + length front) ∷ found)

-- ---- their output

-- a word, if `holds` is true
abbrev pub word_if : Bool → List ℕ → List ℕ
word_if holds word = if holds then word else []

-- whether a receiver has acknowledged the frame
abbrev pub acknowledgement : Bool → List ℕ
acknowledgement acked = if acked then codes " ack" else codes " noack"

-- which levels were received with another value than they are sent with
abbrev pub deviations : HeardParts → List ℕ
deviations h =
    word_if (not (is_recessive h.srr)) (codes " srr0") ++ (word_if (is_recessive h.r1) (codes " r1")
    ++ (word_if (is_recessive h.r0) (codes " r0") ++ word_if (not (is_recessive h.last)) (codes " eof0")))

-- the code of a kind of fault
abbrev pub code_of : CodeFaultKind → List ℕ
code_of Short = codes "C1"
code_of NoStartOfFrame = codes "C2"
code_of Stuff = codes "C3"
code_of Crc = codes "C4"
code_of Form = codes "C5"

-- the output line of a finding
unfoldable pub finding_line : Finding → List ℕ
finding_line (Frame place h) =
    decimal place ++ (codes " " ++ (frame_text h.frame
    ++ (acknowledgement h.acked ++ (deviations h ++ 10 ∷ []))))
finding_line (Fault place kind fault_place) =
    decimal place ++ (codes " fault " ++ (code_of kind
    ++ (codes " at " ++ (decimal fault_place ++ 10 ∷ []))))

-- the levels did not end within the frame
abbrev pub is_closed : Finding → Bool
is_closed (Frame place h) = true
is_closed (Fault place Short fault_place) = false
is_closed (Fault place NoStartOfFrame fault_place) = true
is_closed (Fault place Stuff fault_place) = true
is_closed (Fault place Crc fault_place) = true
is_closed (Fault place Form fault_place) = true

-- the output is the lines of the frames and faults in the levels
pub record DecodesLevels (levels : List Level) (output : List ℕ) : Type 0 where
  pub found : List Finding
  pub finds : Finds 0 levels found
  pub lines : output ≡ flat_map finding_line found

-- this without the line of a frame in which the levels end
pub record DecodesClosed (levels : List Level) (output : List ℕ) : Type 0 where
  pub found : List Finding
  pub finds : Finds 0 levels found
  pub lines : output ≡ flat_map finding_line (filter is_closed found)

-- ---- the output for trace text

-- the output is that for the whole input, which is not too long
pub record DecodesAll (input output : List ℕ) : Type 0 where
  pub within : length input ≤ 2 ^ 63
  pub text : IsTraceText input
  pub decodes : DecodesLevels (levels_in input) output

-- the input may continue, and the output is its closed lines
pub record DecodesSoFar (input output : List ℕ) : Type 0 where
  pub text : IsTraceText input
  pub decodes : DecodesClosed (levels_in input) output

-- the input is too long, and the output is its closed lines
pub record DecodesTooLong (input output : List ℕ) : Type 0 where
  pub long : 2 ^ 63 < length input
  pub decodes : DecodesSoFar input output

-- the first byte that is not trace text has this place, and the output is the closed lines of the levels before it
pub record DecodesToBadByte (place : ℕ) (input output : List ℕ) : Type 0 where
  pub bad : IsFirstBadTraceByte input place
  pub decodes : DecodesClosed (levels_in bad.before) output

-- the output if no write fails, for an input that is complete
pub data FullAnswer (input output : List ℕ) : Type 0 where
  to_end : DecodesAll input output → FullAnswer input output
  to_limit : DecodesTooLong input output → FullAnswer input output
  to_bad_byte : (place : ℕ) → DecodesToBadByte place input output → FullAnswer input output

-- the output is a prefix of that
pub record BeginsDecoding (input output : List ℕ) : Type 0 where
  pub rest : List ℕ
  pub answer : FullAnswer input (output ++ rest)
