-- Levels (bit values: dominant and recessive), and the levels of a number. (Bosch CAN 2.0 part B,
-- sections 2 and 3.2.1)
use Rattle.std.specs.Prelude.{ℕ, zero, suc, Bool, true, false, nat_lt, ◌+◌, ◌*◌, ◌/◌, ◌%◌, ◌^◌, List, [], ◌∷◌, map}
use Rattle.std.specs.List.{list_all}
use Rattle.can_frame.specs.declared.level.Level.{Level}
use Rattle.can_frame.specs.declared.level.Level.TheVariants.{Dominant, Recessive}

abbrev pub is_recessive : Level → Bool
is_recessive Dominant = false
is_recessive Recessive = true

abbrev pub level_from : Bool → Level
level_from false = Dominant
level_from true = Recessive

abbrev pub opposite : Level → Level
opposite Dominant = Recessive
opposite Recessive = Dominant

-- whether two levels are equal
abbrev pub same : Level → Level → Bool
same Dominant Dominant = true
same Recessive Recessive = true
same Dominant Recessive = false
same Recessive Dominant = false

-- the level of a bit: 0 is dominant
abbrev pub level_of : ℕ → Level
level_of zero = Dominant
level_of (suc n) = Recessive

-- the number of a level: its bit value
abbrev pub level_code : Level → ℕ
level_code Dominant = 0
level_code Recessive = 1

-- whether this is the number of a level: 0 or 1
abbrev pub is_level_code : ℕ → Bool
is_level_code code = nat_lt code 2

-- whether each of these is the number of a level
abbrev pub are_level_codes : List ℕ → Bool
are_level_codes codes = list_all is_level_code codes

-- the levels with these numbers
abbrev pub levels_of_codes : List ℕ → List Level
levels_of_codes codes = map level_of codes

-- a level as a digit, `0` or `1`
abbrev pub digit_of : Level → ℕ
digit_of Dominant = 48
digit_of Recessive = 49

-- the n lowest bits of a number, the highest first
unfoldable pub bits_of : ℕ → ℕ → List Level
bits_of zero x = []
bits_of (suc n) x = level_of (x / 2 ^ n % 2) ∷ bits_of n x

-- the number whose bits are those of n followed by these, the highest first
abbrev pub number_from : ℕ → List Level → ℕ
number_from n [] = n
number_from n (Dominant ∷ bits) = number_from (2 * n) bits
number_from n (Recessive ∷ bits) = number_from (2 * n + 1) bits
