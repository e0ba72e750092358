-- The arbitration field of a frame, which decides its priority. (Bosch CAN 2.0 part B, sections 2
-- and 3.2.1)
use Rattle.std.specs.Prelude.{ℕ, Bool, ◌≡◌, ◌/◌, ◌^◌, if◌then◌else◌, List, [], ◌∷◌, ◌++◌, take, slice_get, Some}
use Rattle.std.specs.declared.cmp.Ordering.{Ordering}
use Rattle.std.specs.Ordering.{bool_cmp, on}
use Rattle.std.specs.Cmp.Lexicographic.{slice_cmp}
use Rattle.can_frame.specs.declared.level.Level.{Level}
use Rattle.can_frame.specs.declared.level.Level.TheVariants.{Dominant, Recessive}
use Rattle.can_frame.specs.Levels.{is_recessive, level_from, bits_of}
use Rattle.can_frame.specs.Parts.{Parts}

-- The arbitration field of a standard frame: identifier, RTR, IDE.
abbrev pub standard_field : ℕ → Bool → List Level
standard_field raw remote = bits_of 11 raw ++ level_from remote ∷ Dominant ∷ []

-- The arbitration field of an extended frame with this SRR level: the identifier's eleven highest
-- bits, SRR, IDE, its other bits, RTR.
abbrev pub extended_with : Level → ℕ → Bool → List Level
extended_with srr raw remote = bits_of 11 (raw / 2 ^ 18) ++ srr ∷ Recessive ∷ (bits_of 18 raw ++ level_from remote ∷ [])

-- The arbitration field of an extended frame as its transmitter sends it: SRR is recessive.
abbrev pub extended_field : ℕ → Bool → List Level
extended_field raw remote = extended_with Recessive raw remote

-- the arbitration field of a frame, with this SRR level if it is extended
abbrev pub field_with : Level → Parts → List Level
field_with srr f = if f.id.extended then extended_with srr f.id.raw f.remote else standard_field f.id.raw f.remote

-- the arbitration field of a frame as its transmitter sends it
unfoldable pub arbitration_field : Parts → List Level
arbitration_field f = field_with Recessive f

-- a wins arbitration against b: at the first place where they differ, a is dominant
pub record Before (a b : List Level) : Type 0 where
  pub place : ℕ
  pub same : take place a ≡ take place b
  pub low : slice_get a place ≡ Some Dominant
  pub high : slice_get b place ≡ Some Recessive

-- the order of two levels: dominant is less than recessive
abbrev pub level_cmp : Level → Level → Ordering
level_cmp = on is_recessive bool_cmp

-- the order of two fields: that of the first levels that differ
abbrev pub field_cmp : List Level → List Level → Ordering
field_cmp = slice_cmp level_cmp
