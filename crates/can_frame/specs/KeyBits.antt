-- How a key keeps an arbitration field: in 32 bits, its levels first (highest), zeros after them.
use Rattle.std.specs.Prelude.{◌≡◌, ℕ, ◌-◌, ◌*◌, ◌/◌, ◌%◌, ◌^◌, ◌<◌, ◌==◌, if◌then◌else◌, List, length}
use Rattle.can_frame.specs.declared.level.Level.{Level}
use Rattle.can_frame.specs.Levels.{bits_of, number_from}

-- the IDE bit, the 13th from the top
abbrev pub ide_bit : ℕ → ℕ
ide_bit bits = bits / 2 ^ 19 % 2

-- the field that is kept: 13 levels if the IDE bit is dominant, otherwise all 32
unfoldable pub kept_field : ℕ → List Level
kept_field bits = if ide_bit bits == 0 then bits_of 13 (bits / 2 ^ 19) else bits_of 32 bits

-- the bits keep a field: they are 32, and zero after a standard field
pub record IsKept (bits : ℕ) : Type 0 where
  pub range : bits < 2 ^ 32
  pub zeros : ide_bit bits ≡ 0 → bits % 2 ^ 19 ≡ 0

-- the bits that keep a field
abbrev pub bits_to_keep : List Level → ℕ
bits_to_keep field = number_from 0 field * 2 ^ (32 - length field)
