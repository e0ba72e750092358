-- Bit stuffing, defined by places in the stuffed list. (Bosch CAN 2.0 part B, section 6)
use Rattle.std.specs.Prelude.{ℕ, ◌≡◌, ◌≢◌, ◌+◌, ◌-◌, ◌<◌, ◌==◌, Bool, true, false, ◌&&◌, if◌then◌else◌, List, [], ◌∷◌, length, take, reverse, slice_index_or}
use Rattle.can_frame.specs.declared.level.Level.{Level}
use Rattle.can_frame.specs.declared.level.Level.TheVariants.{Dominant}
use Rattle.can_frame.specs.Levels.{same, opposite}

-- whether the list begins with five equal levels
abbrev pub begins_with_five : List Level → Bool
begins_with_five (v ∷ w ∷ x ∷ y ∷ z ∷ rest) = same v w && (same w x && (same x y && same y z))
begins_with_five levels = false

-- whether a stuff bit is due at place p: the five levels before it exist and are equal
abbrev pub is_stuff_place : List Level → ℕ → Bool
is_stuff_place b p = begins_with_five (reverse (take p b))

-- the part xs of b that begins at place p, without the stuff bits of b
abbrev pub kept : List Level → ℕ → List Level → List Level
kept b p [] = []
kept b p (x ∷ xs) = if is_stuff_place b p then kept b (p + 1) xs else x ∷ kept b (p + 1) xs

-- b is a with its stuff bits
pub record Stuffs (a b : List Level) : Type 0 where
  -- a stuff bit differs from the level before it
  pub differs : (p : ℕ) → p < length b → is_stuff_place b p ≡ true → slice_index_or b p Dominant ≢ slice_index_or b (p - 1) Dominant
  -- without its stuff bits b is a
  pub rest : kept b 0 b ≡ a
  -- the last five levels, if there are five, are not all equal
  pub end : is_stuff_place b (length b) ≡ false

-- the length of the run that level x ends, after a run of this level and length
abbrev pub run_after : Level → ℕ → Level → ℕ
run_after last run x = if same x last then run + 1 else 1

-- the list with its stuff bits, computed, after a run of this level and length
abbrev pub stuffed_from : Level → ℕ → List Level → List Level
stuffed_from last run [] = []
stuffed_from last run (x ∷ xs) =
    if run_after last run x == 5 then x ∷ opposite x ∷ stuffed_from (opposite x) 1 xs
    else x ∷ stuffed_from x (run_after last run x) xs

-- the list with its stuff bits, computed
unfoldable pub stuffed : List Level → List Level
stuffed a = stuffed_from Dominant 0 a
