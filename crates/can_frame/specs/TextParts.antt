-- The spellings of the parts of a frame's text, and the place at which bytes leave them.
-- (docs/FORMATS.md, "Frame text")
use Rattle.std.specs.Prelude.{ℕ, ◌≡◌, ◌≢◌, ◌-◌, ◌*◌, ◌^◌, ◌<◌, ◌≤◌, ◌==◌, Bool, if◌then◌else◌, List, [], ◌∷◌, ◌++◌, length, take, drop, slice_index}
use Rattle.hex.specs.Hex.{encode_lower, lower_digits, IsBytes}
use Rattle.can_frame.specs.Ident.{ident_count}
use Rattle.can_frame.specs.Parts.{byte_count}
use Rattle.can_frame.specs.Text.{hex_digits, decimal_digits, identifier_digits, blank}
use Rattle.can_frame.specs.declared.text.TextFaultKind.{TextFaultKind}
use Rattle.can_frame.specs.declared.text.TextFault.{TextFault}

-- one of two letters, the second if `is_second`, and a space
abbrev pub letter_spelling : ℕ → ℕ → Bool → List ℕ
letter_spelling first second is_second = (if is_second then second else first) ∷ blank

-- an identifier and a space
abbrev pub identifier_spelling : Bool → ℕ → List ℕ
identifier_spelling extended raw = hex_digits (identifier_digits extended) raw ++ blank

-- a DLC, and a space if data bytes follow
abbrev pub dlc_spelling : Bool → ℕ → List ℕ
dlc_spelling remote dlc = decimal_digits dlc ++ (if byte_count remote dlc == 0 then [] else blank)

-- the bytes are one of two letters and a space
abbrev pub IsLetter : ℕ → ℕ → List ℕ → Type 0
IsLetter first second w = (is_second : Bool) × (letter_spelling first second is_second ≡ w)

-- the byte is the lower-case hexadecimal digit of d, which is below 16
abbrev pub IsDigit : ℕ → ℕ → Type 0
IsDigit d byte = (d < 16) × (slice_index lower_digits d ≡ byte)

-- the bytes are `count` hexadecimal digits of a number, the first of them below a limit
abbrev pub IsHexNumber : ℕ → ℕ → List ℕ → Type 0
IsHexNumber count limit w = (n : ℕ) × (n < limit * 16 ^ (count - 1)) × (hex_digits count n ≡ w)

-- the bytes are an identifier of this kind and a space
abbrev pub IsIdentifier : Bool → List ℕ → Type 0
IsIdentifier extended w = (raw : ℕ) × (raw < ident_count extended) × (identifier_spelling extended raw ≡ w)

-- the bytes are a DLC without a space
abbrev pub IsDecimal : List ℕ → Type 0
IsDecimal w = (dlc : ℕ) × (dlc < 16) × (decimal_digits dlc ≡ w)

-- the bytes are a DLC, and a space if data bytes follow
abbrev pub IsDlc : Bool → List ℕ → Type 0
IsDlc remote w = (dlc : ℕ) × (dlc < 16) × (dlc_spelling remote dlc ≡ w)

-- the bytes are `count` data bytes in hexadecimal
abbrev pub IsData : ℕ → List ℕ → Type 0
IsData count w = (bytes : List ℕ) × IsBytes bytes × (length bytes ≡ count) × (encode_lower bytes ≡ w)

-- n is the place at which the bytes leave the spellings: some spelling has their first n bytes, and
-- each spelling that has them has a further byte, which is not the next byte of the text
pub record Leaves (Spells : List ℕ → Type 0) (bytes : List ℕ) (n : ℕ) : Type 0 where
  pub within : n ≤ length bytes
  pub some : (w : List ℕ) × Spells w × (take n w ≡ take n bytes)
  pub each : (w rest : List ℕ) → Spells w → take n (w ++ rest) ≡ take n bytes
      → (n < length w) × (n < length bytes → slice_index w n ≢ slice_index bytes n)

-- this part of the text begins at `start`, and the fault is at the place at which the text leaves the
-- part's spellings
pub record LeavesPart (part : TextFaultKind) (Spells : List ℕ → Type 0) (text : List ℕ) (start : ℕ) (fault : TextFault) : Type 0 where
  pub kind : fault.kind ≡ part
  pub begun : start ≤ fault.place
  pub leaves : Leaves Spells (drop start text) (fault.place - start)

-- the text has this spelling between these places
pub record StandsAt (spelling : List ℕ) (text : List ℕ) (start end : ℕ) : Type 0 where
  pub within : end ≤ length text
  pub spelt : drop start text ≡ spelling ++ drop end text

-- no DLC at the start of the bytes has more digits than this one
abbrev pub MostDigits : ℕ → List ℕ → Type 0
MostDigits dlc bytes = (other : ℕ) (rest : List ℕ) → other < 16 → bytes ≡ decimal_digits other ++ rest
    → length (decimal_digits other) ≤ length (decimal_digits dlc)
