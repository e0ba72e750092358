-- The lines of a text. A line ends with 0x0a; the last one may lack it, and empty text has no lines. (docs/FORMATS.md)
use Rattle.std.specs.Prelude.{◌≡◌, ℕ, ◌==◌, if◌then◌else◌, Bool, false, List, [], ◌∷◌, ◌++◌}
use Rattle.std.specs.List.{AllByRecursion}

-- what ends a line
abbrev pub line_end : List ℕ
line_end = 10 ∷ []

-- a line with its end
abbrev pub with_end : List ℕ → List ℕ
with_end line = line ++ line_end

-- the text with a byte before its first line
abbrev pub onto_first : ℕ → List (List ℕ) → List (List ℕ)
onto_first byte [] = (byte ∷ []) ∷ []
onto_first byte (line ∷ lines) = (byte ∷ line) ∷ lines

-- the lines of a text, without their ends
abbrev pub lines_of : List ℕ → List (List ℕ)
lines_of [] = []
lines_of (byte ∷ text) = if byte == 10 then [] ∷ lines_of text else onto_first byte (lines_of text)

-- these lines with a byte before the first one, if it is ended
abbrev pub onto_ended : ℕ → List (List ℕ) → List (List ℕ)
onto_ended byte [] = []
onto_ended byte (line ∷ lines) = (byte ∷ line) ∷ lines

-- the lines of a text that end with 0x0a
abbrev pub ended_lines : List ℕ → List (List ℕ)
ended_lines [] = []
ended_lines (byte ∷ text) = if byte == 10 then [] ∷ ended_lines text else onto_ended byte (ended_lines text)

-- the lines that are known to be complete: those with an end, and also the last one if the reader ended
abbrev pub whole_lines : Bool → List ℕ → List (List ℕ)
whole_lines reader_ended text = if reader_ended then lines_of text else ended_lines text

-- the bytes contain no line end
abbrev pub IsLine : List ℕ → Type 0
IsLine bytes = AllByRecursion (λ byte. (byte == 10) ≡ false) bytes

-- The unread bytes followed by the input are a line. If an end was found, it and the rest follow the line; otherwise
-- nothing does.
pub record SplitsLine (found : Bool) (unread input line rest : List ℕ) : Type 0 where
  pub is_line : IsLine line
  pub split : unread ++ input ≡ line ++ (if found then 10 ∷ rest else [])
  pub closed : found ≡ false → rest ≡ []
