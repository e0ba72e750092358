-- The names of the kit's cases and families. (docs/CONFORMANCE.md, "Documents")
use Rattle.std.specs.Prelude.{ℕ, ◌≡◌, ◌==◌, ◌≤◌, ◌<◌, nat_le, Bool, true, ◌&&◌, ◌||◌, List, length}
use Rattle.std.specs.List.{list_all}

-- a letter from a to z, a digit or a hyphen
abbrev pub is_kit_name_byte : ℕ → Bool
is_kit_name_byte byte = (nat_le 97 byte && nat_le byte 122) || ((nat_le 48 byte && nat_le byte 57) || (byte == 45))

-- A name is 1 to `most` letters from a to z, digits and hyphens.
pub record IsKitName (most : ℕ) (text : List ℕ) : Type 0 where
  pub some : 0 < length text
  pub few : length text ≤ most
  pub letters : list_all is_kit_name_byte text ≡ true

-- the maximum length of the name of a case, in bytes
abbrev pub longest_name : ℕ
longest_name = 80
