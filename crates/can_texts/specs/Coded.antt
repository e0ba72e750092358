-- The output for lines of frames. (docs/FORMATS.md, "`canbit encode`")
use Rattle.std.specs.Prelude.{◌≡◌, ℕ, ◌^◌, ◌<◌, ◌≤◌, List, [], ◌∷◌, ◌++◌, length, map, Bool}
use Rattle.std.specs.List.{flat_map, AllByRecursion}
use Rattle.can_frame.specs.declared.text.TextFault.{TextFault}
use Rattle.can_frame.specs.Parts.{Parts, IsFrame}
use Rattle.can_frame.specs.Text.{frame_text, IsFrameText, IsTextFault}
use Rattle.can_wire.specs.Wire.{driven}
use Rattle.can_frame.specs.Levels.{digit_of}
use Rattle.can_stream.specs.Lines.{lines_of, ended_lines}
use Rattle.can_texts.specs.Answered.{BeginsAnswer, StopsAtLine}

-- the line of a frame's levels as its transmitter drives them
unfoldable pub coded_line : Parts → List ℕ
coded_line f = map digit_of (driven f) ++ 10 ∷ []

-- each line is the text of a frame, and the output is a line of levels for each
pub record Codes (lines : List (List ℕ)) (output : List ℕ) : Type 0 where
  pub frames : List Parts
  pub each : AllByRecursion IsFrame frames
  pub texts : map frame_text frames ≡ lines
  pub coded : output ≡ flat_map coded_line frames

-- the output is that for all lines of the input, which is not too long
pub record EncodesAll (input output : List ℕ) : Type 0 where
  pub within : length input ≤ 2 ^ 63
  pub codes : Codes (lines_of input) output

-- the output is that for the input lines that have an end
abbrev pub EncodesEnded : List ℕ → List ℕ → Type 0
EncodesEnded input output = Codes (ended_lines input) output

-- the input is too long, and the output is that for its lines that have an end
pub record EncodesTooLong (input output : List ℕ) : Type 0 where
  pub long : 2 ^ 63 < length input
  pub codes : EncodesEnded input output

-- The output is a prefix of that for the complete input lines before the first that is not a frame text.
abbrev pub BeginsEncoding : Bool → List ℕ → List ℕ → Type 0
BeginsEncoding = BeginsAnswer Codes

-- the line is not a frame text, and has this fault
abbrev pub IsBadFrameLine : TextFault → List ℕ → Type 0
IsBadFrameLine fault line = (¬ IsFrameText line) × IsTextFault line fault

-- The input line with this number, from 1, is the first of those known to be complete that is not a frame text. It has
-- this fault. The output is that for the lines before it.
abbrev pub IsFirstBadLine : ℕ → TextFault → Bool → List ℕ → List ℕ → Type 0
IsFirstBadLine number fault = StopsAtLine Codes (IsBadFrameLine fault) number
