-- The fault of levels that do not begin with a frame: its kind and place. (docs/FRAMES.md, "Decoding"; docs/CODES.md)
use Rattle.std.specs.Prelude.{ℕ, ◌≡◌, ◌+◌, ◌<◌, ◌≤◌, List, ◌++◌, length, take}
use Rattle.can_frame.specs.declared.level.Level.{Level}
use Rattle.can_code.specs.declared.fault.CodeFaultKind.{CodeFaultKind}
use Rattle.can_code.specs.declared.fault.CodeFaultKind.TheVariants.{Short, NoStartOfFrame, Stuff, Crc, Form}
use Rattle.can_code.specs.declared.fault.CodeFault.{CodeFault}
use Rattle.can_wire.specs.Heard.{HeardParts, Spells, IsStuffedPart, BeginsShape, IsSound}

-- p is the length of the longest sound prefix of the levels
pub record IsLongestSound (levels : List Level) (p : ℕ) : Type 0 where
  pub within : p ≤ length levels
  pub sound : IsSound (take p levels)
  pub longest : (n : ℕ) → p < n → n ≤ length levels → IsSound (take n levels) → ⊥

-- b begins with a complete stuffed part
abbrev pub HasStuffedPart : List Level → Type 0
HasStuffedPart b = (h : HeardParts) × (check : List Level) × (s : List Level) × (rest : List Level) × IsStuffedPart h check s × (s ++ rest ≡ b)

-- The kind of a fault at place p: the first of these that fits.
abbrev pub HasKind : List Level → ℕ → CodeFaultKind → Type 0
-- the levels end there
HasKind levels p Short = p ≡ length levels
-- the first level is not a SOF
HasKind levels p NoStartOfFrame = (p < length levels) × (p ≡ 0)
-- one more level completes a stuffed part with a wrong CRC sequence
HasKind levels p Crc = (p < length levels) × (0 < p) × BeginsShape (take (p + 1) levels)
-- the stuffed part is not complete: a stuff bit has the level of the bit before it
HasKind levels p Stuff = (p < length levels) × (0 < p) × (BeginsShape (take (p + 1) levels) → ⊥) × (HasStuffedPart (take p levels) → ⊥)
-- the stuffed part is complete: a delimiter or a bit of the end of frame is dominant
HasKind levels p Form = (p < length levels) × (0 < p) × (BeginsShape (take (p + 1) levels) → ⊥) × HasStuffedPart (take p levels)

-- the fault of levels of which no prefix encodes a frame
pub record IsCodeFault (levels : List Level) (fault : CodeFault) : Type 0 where
  pub unspelled : (h : HeardParts) (w rest : List Level) → Spells h w → w ++ rest ≡ levels → ⊥
  pub place : IsLongestSound levels fault.place
  pub kind : HasKind levels fault.place fault.kind
