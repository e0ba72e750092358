-- Levels as digits, and what a front and a decoder have received of them.
use Rattle.std.specs.Prelude.{ℕ, zero, suc, ◌≡◌, ◌≤◌, ◌/◌, ◌%◌, Bool, Some, List, [], ◌∷◌, ◌++◌, length, map, take}
use Rattle.can_frame.specs.declared.level.Level.{Level}
use Rattle.can_frame.specs.declared.level.Level.TheVariants.{Recessive}
use Rattle.can_frame.specs.Levels.{digit_of, level_of}
use Rattle.can_wire.specs.Wire.{tail}
use Rattle.can_wire.specs.Heard.{ack_slot}
use Rattle.can_code.specs.Front.{FrontParts, heard_levels}
use Rattle.can_code.specs.Decoder.{DecoderParts, HasHeard}

-- the n lowest bits of a number, the lowest first
abbrev pub levels_up : ℕ → ℕ → List Level
levels_up zero x = []
levels_up (suc n) x = level_of (x % 2) ∷ levels_up n (x / 2)

-- the digits begin with those of the n lowest bits of a number, the lowest first
abbrev pub BeginWith : List ℕ → ℕ → ℕ → Type 0
BeginWith digits n x = (n ≤ length digits) × (take n digits ≡ map digit_of (levels_up n x))

-- the digits are those of levels that lead from front f to front g
pub record HearsDigits (f g : FrontParts) (digits : List ℕ) : Type 0 where
  pub levels : List Level
  pub digits_are : digits ≡ map digit_of levels
  pub heard : heard_levels f levels ≡ Some g

-- the digits are those of levels that lead from the first k levels of a tail to its first n
pub record HearsTail (k : ℕ) (acked : Bool) (n : ℕ) (acked_now : Bool) (digits : List ℕ) : Type 0 where
  pub levels : List Level
  pub digits_are : digits ≡ map digit_of levels
  pub follow : take n (tail (ack_slot acked_now) Recessive) ≡ take k (tail (ack_slot acked) Recessive) ++ levels

-- the digits are those of levels, and whatever decoder d has received, e has received followed by them
pub record DecodesDigits (d e : DecoderParts) (digits : List ℕ) : Type 0 where
  pub levels : List Level
  pub digits_are : digits ≡ map digit_of levels
  pub heard : (before : List Level) → HasHeard d before → HasHeard e (before ++ levels)
