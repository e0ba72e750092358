-- The output for lines of vectors, each with a frame's text and levels that may be the frame's. (docs/FORMATS.md,
-- "`canbit check`")
use Rattle.std.specs.Prelude.{◌≡◌, ◌≢◌, ◌⊎◌, ℕ, ◌+◌, ◌^◌, ◌<◌, ◌≤◌, List, [], ◌∷◌, ◌++◌, length, take, drop, map, codes, decimal, Bool, true}
use Rattle.std.specs.List.{flat_map}
use Rattle.can_frame.specs.declared.level.Level.{Level}
use Rattle.can_frame.specs.declared.text.TextFault.{TextFault}
use Rattle.can_frame.specs.Parts.{Parts, IsFrame}
use Rattle.can_frame.specs.Text.{frame_text, IsFrameText, IsTextFault}
use Rattle.can_wire.specs.Wire.{driven}
use Rattle.can_stream.specs.Lines.{lines_of, ended_lines, with_end}
use Rattle.can_texts.specs.Answered.{BeginsAnswer, StopsAtLine}
use Rattle.can_frame.specs.Levels.{digit_of}
use Rattle.can_texts.specs.declared.lines.vector.Verdict.{Verdict}
use Rattle.can_texts.specs.declared.lines.vector.Verdict.TheVariants.{Agrees, DiffersAt}
use Rattle.can_texts.specs.declared.lines.vector.BadLine.{BadLine}
use Rattle.can_texts.specs.declared.lines.vector.BadLine.TheVariants.{Frame, Byte}

-- ---- one line

-- what separates the frame text and the levels
abbrev pub mark : List ℕ
mark = codes " = "

-- the bytes are the digits of these levels, at most 157
pub record IsLevels (digits : List ℕ) (levels : List Level) : Type 0 where
  pub within : length levels ≤ 157
  pub digits_are : digits ≡ map digit_of levels

-- The byte at this place is the first that is not a digit of a level, or follows 157 levels.
pub record IsFirstBadDigit (digits : List ℕ) (place : ℕ) : Type 0 where
  pub levels : List Level
  pub wrong : ℕ
  pub others : List ℕ
  pub within : length levels ≤ 157
  pub digits_are : digits ≡ map digit_of levels ++ wrong ∷ others
  pub is_wrong : (level : Level) → digit_of level ≡ wrong → length levels ≡ 157
  pub place_is : place ≡ length levels

-- the line is the text of this frame, the mark and other bytes
pub record IsMarkedLine (line : List ℕ) (f : Parts) (others : List ℕ) : Type 0 where
  pub is_frame : IsFrame f
  pub line_is : line ≡ frame_text f ++ (mark ++ others)

-- the line is the text of this frame, the mark and the digits of these levels, at most 157
pub record IsVector (line : List ℕ) (f : Parts) (levels : List Level) : Type 0 where
  pub digits : List ℕ
  pub marked : IsMarkedLine line f digits
  pub are_levels : IsLevels digits levels

-- these are the bytes of the line before its first mark, or the whole line if it has none
pub record IsFramePart (line front : List ℕ) : Type 0 where
  pub rest : List ℕ
  pub line_is : line ≡ front ++ rest
  pub marked : (rest ≡ []) ⊎ (take 3 rest ≡ mark)
  pub first : (place : ℕ) → place < length front → take 3 (drop place line) ≢ mark

-- the bytes before the first mark have this fault as a frame text, or they are one and no mark follows
pub record IsBadVectorLine (fault : TextFault) (line : List ℕ) : Type 0 where
  pub front : List ℕ
  pub is_front : IsFramePart line front
  pub has_fault : IsTextFault front fault
  pub is_bad : IsFrameText front → front ≡ line

-- the line is a frame text, a mark and then bytes; the one at this place of the line is the first that is not a digit
-- of a level, or follows 157 levels
pub record IsBadLevelByte (line : List ℕ) (place : ℕ) : Type 0 where
  pub frame : Parts
  pub digits : List ℕ
  pub marked : IsMarkedLine line frame digits
  pub place_in_digits : ℕ
  pub is_bad : IsFirstBadDigit digits place_in_digits
  pub place_is : place ≡ length (frame_text frame) + 3 + place_in_digits

-- n is the length of the longest common prefix
pub record IsCommonFront {X : Type 0} (xs ys : List X) (n : ℕ) : Type 0 where
  pub within : (n ≤ length xs) × (n ≤ length ys)
  pub same : take n xs ≡ take n ys
  pub longest : (m : ℕ) → n < m → m ≤ length xs → m ≤ length ys → take m xs ≢ take m ys

-- the levels are the driven ones; or they differ, first at this place
abbrev pub Compares : List Level → List Level → Verdict → Type 0
Compares levels driven_levels Agrees = levels ≡ driven_levels
Compares levels driven_levels (DiffersAt place) = (levels ≢ driven_levels) × IsCommonFront levels driven_levels place

-- the bytes are the digits of levels, and this is their verdict for the frame
pub record ComparesDigits (digits : List ℕ) (f : Parts) (verdict : Verdict) : Type 0 where
  pub levels : List Level
  pub are_levels : IsLevels digits levels
  pub compares : Compares levels (driven f) verdict

-- the line is a vector, and this is the verdict on its levels
pub record IsVectorVerdict (line : List ℕ) (verdict : Verdict) : Type 0 where
  pub frame : Parts
  pub levels : List Level
  pub vector : IsVector line frame levels
  pub compares : Compares levels (driven frame) verdict

-- why a line has no verdict
abbrev pub IsBadAs : List ℕ → BadLine → Type 0
IsBadAs line (Frame fault) = IsBadVectorLine fault line
IsBadAs line (Byte place) = IsBadLevelByte line place

-- the line that is written for a verdict
unfoldable pub vector_verdict_line : Verdict → List ℕ
vector_verdict_line Agrees = codes "ok" ++ 10 ∷ []
vector_verdict_line (DiffersAt place) = codes "differs at " ++ (decimal place ++ 10 ∷ [])

-- 1 for a line that passes
abbrev pub passed_by : Verdict → ℕ
passed_by Agrees = 1
passed_by (DiffersAt place) = 0

-- ---- all lines

-- each line has its verdict
abbrev pub Judged : List (List ℕ) → List Verdict → Type 0
Judged [] [] = Unit {0}
Judged [] (verdict ∷ verdicts) = ⊥
Judged (line ∷ lines) [] = ⊥
Judged (line ∷ lines) (verdict ∷ verdicts) = IsVectorVerdict line verdict × Judged lines verdicts

-- how many lines pass
abbrev pub passed_in : List Verdict → ℕ
passed_in [] = 0
passed_in (verdict ∷ verdicts) = passed_by verdict + passed_in verdicts

-- each line is a vector, `passed` of them pass, and the output is a line for each
pub record Checks (lines : List (List ℕ)) (passed : ℕ) (output : List ℕ) : Type 0 where
  pub verdicts : List Verdict
  pub judged : Judged lines verdicts
  pub passed_is : passed ≡ passed_in verdicts
  pub output_is : output ≡ flat_map vector_verdict_line verdicts

-- this for any number that passes
abbrev pub ChecksLines : List (List ℕ) → List ℕ → Type 0
ChecksLines lines output = (passed : ℕ) × Checks lines passed output

-- the last line that is written
unfoldable pub total_line : ℕ → ℕ → List ℕ
total_line passed count = codes "passed " ++ (decimal passed ++ (codes " of " ++ (decimal count ++ 10 ∷ [])))

-- the output is that for each line of the input, which is not too long
pub record ChecksEach (passed count : ℕ) (input output : List ℕ) : Type 0 where
  pub within : length input ≤ 2 ^ 63
  pub checks : Checks (lines_of input) passed output
  pub count_is : count ≡ length (lines_of input)

-- the output is that for the whole input: for each line, and then the total
pub record ChecksAll (passed count : ℕ) (input output : List ℕ) : Type 0 where
  pub verdicts : List ℕ
  pub checks : ChecksEach passed count input verdicts
  pub output_is : output ≡ verdicts ++ total_line passed count

-- the output is that for the input lines that have an end, and the open line after them has no bad byte
pub record ChecksEnded (input output : List ℕ) : Type 0 where
  pub open_line : List ℕ
  pub split : input ≡ flat_map with_end (ended_lines input) ++ open_line
  pub checks : ChecksLines (ended_lines input) output
  pub unbroken : (place : ℕ) → ¬ IsBadLevelByte open_line place

-- this for an input that is too long
pub record ChecksTooLong (input output : List ℕ) : Type 0 where
  pub long : 2 ^ 63 < length input
  pub checks : ChecksEnded input output

-- the output is a prefix of that for the whole input
pub record BeginsTotal (reader_ended : Bool) (input output : List ℕ) : Type 0 where
  pub ended : reader_ended ≡ true
  pub rest : List ℕ
  pub passed : ℕ
  pub count : ℕ
  pub checks : ChecksAll passed count input (output ++ rest)

-- The output is a prefix of that for the complete input lines before the first bad one. If all lines are known and none
-- is bad, it may include the total.
abbrev pub BeginsChecking : Bool → List ℕ → List ℕ → Type 0
BeginsChecking reader_ended input output =
    BeginsAnswer ChecksLines reader_ended input output
    ⊎ BeginsTotal reader_ended input output

-- The input line with this number, from 1, is the first bad one of those that are known to be complete. Its frame text
-- has this fault. The output is that for the lines before it.
abbrev pub IsFirstBadVectorLine : ℕ → TextFault → Bool → List ℕ → List ℕ → Type 0
IsFirstBadVectorLine number fault = StopsAtLine ChecksLines (IsBadVectorLine fault) number

-- The byte at this place of the input is bad in its line, which may lack its end. The output is that for the lines
-- before it, which have an end.
pub record IsFirstBadByte (place : ℕ) (input output : List ℕ) : Type 0 where
  pub before : List (List ℕ)
  pub bad : List ℕ
  pub after : List (List ℕ)
  pub lines : lines_of input ≡ before ++ bad ∷ after
  pub checks : ChecksLines before output
  pub place_in_line : ℕ
  pub is_bad : IsBadLevelByte bad place_in_line
  pub place_is : place ≡ length (flat_map with_end before) + place_in_line
