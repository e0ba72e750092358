-- Frame text: how a frame is written in one line, and the fault of other bytes. (docs/FORMATS.md,
-- "Frame text"; docs/CODES.md)
use Rattle.std.specs.Prelude.{ℕ, zero, suc, ◌≡◌, ◌↔◌, ◌+◌, ◌/◌, ◌%◌, ◌^◌, ◌<◌, ◌≤◌, nat_lt, Bool, if◌then◌else◌, List, [], ◌∷◌, ◌++◌, length, take, slice_index, codes}
use Rattle.hex.specs.Hex.{encode_lower}
use Rattle.can_frame.specs.Parts.{Parts, IsFrame}
use Rattle.can_frame.specs.declared.text.TextFaultKind.{TextFaultKind}
use Rattle.can_frame.specs.declared.text.TextFaultKind.TheVariants.{KindLetter, Identifier, DataOrRemote, Dlc, Data, Trailing}
use Rattle.can_frame.specs.declared.text.TextFault.{TextFault}

-- the k lowest hexadecimal digits of a number, in lower case, the highest first
unfoldable pub hex_digits : ℕ → ℕ → List ℕ
hex_digits zero n = []
hex_digits (suc k) n = slice_index (codes "0123456789abcdef") (n / 16 ^ k % 16) ∷ hex_digits k n

-- a number below 100 in decimal, without leading zero; 48 is the code of `0`
abbrev pub decimal_digits : ℕ → List ℕ
decimal_digits n = if nat_lt n 10 then (48 + n) ∷ [] else (48 + n / 10) ∷ (48 + n % 10) ∷ []

-- how many hexadecimal digits an identifier has
abbrev pub identifier_digits : Bool → ℕ
identifier_digits extended = if extended then 8 else 3

abbrev pub blank : List ℕ
blank = codes " "

-- The five parts of a frame's text, each with the space that follows it.

abbrev pub letter_part : Parts → List ℕ
letter_part f = (if f.id.extended then codes "E" else codes "S") ++ blank

abbrev pub identifier_part : Parts → List ℕ
identifier_part f = hex_digits (identifier_digits f.id.extended) f.id.raw ++ blank

abbrev pub direction_part : Parts → List ℕ
direction_part f = (if f.remote then codes "R" else codes "D") ++ blank

-- a space, only if there are data bytes
abbrev pub blank_before : List ℕ → List ℕ
blank_before [] = []
blank_before (b ∷ bytes) = blank

abbrev pub dlc_part : Parts → List ℕ
dlc_part f = decimal_digits f.dlc ++ blank_before f.bytes

abbrev pub data_part : Parts → List ℕ
data_part f = encode_lower f.bytes

-- the text of a frame
unfoldable pub frame_text : Parts → List ℕ
frame_text f = letter_part f ++ (identifier_part f ++ (direction_part f ++ (dlc_part f ++ data_part f)))

-- the bytes are the text of some frame
abbrev pub IsFrameText : List ℕ → Type 0
IsFrameText bytes = (f : Parts) × IsFrame f × (frame_text f ≡ bytes)

-- the bytes begin the text of this frame
pub record BeginsText (front : List ℕ) (f : Parts) : Type 0 where
  pub frame : IsFrame f
  pub rest : List ℕ
  pub text : frame_text f ≡ front ++ rest

-- the bytes begin the text of some frame
abbrev pub BeginsSomeText : List ℕ → Type 0
BeginsSomeText front = (f : Parts) × BeginsText front f

-- n is the length of the longest prefix of the bytes that begins the text of some frame
pub record IsLongestBeginning (bytes : List ℕ) (n : ℕ) : Type 0 where
  pub within : n ≤ length bytes
  pub begins : BeginsSomeText (take n bytes)
  pub longest : (m : ℕ) → n < m → m ≤ length bytes → BeginsSomeText (take m bytes) → ⊥

-- the part of the frame's text that contains this place
unfoldable pub part_at : Parts → ℕ → TextFaultKind
part_at f place =
    if nat_lt place (length (letter_part f)) then KindLetter
    else if nat_lt place (length (letter_part f ++ identifier_part f)) then Identifier
    else if nat_lt place (length (letter_part f ++ (identifier_part f ++ direction_part f))) then DataOrRemote
    else if nat_lt place (length (letter_part f ++ (identifier_part f ++ (direction_part f ++ dlc_part f)))) then Dlc
    else Data

-- The fault of bytes that are not the text of a frame. Its place is the length of the longest prefix
-- that begins some frame text. If this prefix is a whole frame text, the fault is `Trailing`.
-- Otherwise it is the part that contains the place, in the text of each frame that begins with the
-- prefix.
pub record IsTextFault (bytes : List ℕ) (fault : TextFault) : Type 0 where
  pub place : IsLongestBeginning bytes fault.place
  pub trailing : (fault.kind ≡ Trailing) ↔ IsFrameText (take fault.place bytes)
  pub part : (f : Parts) → BeginsText (take fault.place bytes) f → (IsFrameText (take fault.place bytes) → ⊥) → fault.kind ≡ part_at f fault.place
