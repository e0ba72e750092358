-- The names of messages. (docs/PLANNING.md, "`canplan`")
use Rattle.std.specs.Prelude.{ℕ, ◌≡◌, ◌<◌, ◌≤◌, nat_le, Bool, true, ◌&&◌, ◌||◌, List, length, take, Option, Some, None}
use Rattle.std.specs.List.{list_all}
use Rattle.toml.specs.Data.{Data, string}
use Rattle.can_plan_text.specs.declared.name.Name.{Name}

-- a printable character of ASCII, but not a quotation mark or a backslash
abbrev pub is_name_byte : ℕ → Bool
is_name_byte byte = (nat_le 32 byte && nat_le byte 33) || ((nat_le 35 byte && nat_le byte 91) || (nat_le 93 byte && nat_le byte 126))

-- 1 to 64 of these characters
pub record IsMessageName (text : List ℕ) : Type 0 where
  pub some : 0 < length text
  pub few : length text ≤ 64
  pub printed : list_all is_name_byte text ≡ true

-- a string that is a name
abbrev pub IsNameValue : Data → Type 0
IsNameValue d = (text : List ℕ) × (d ≡ string text) × IsMessageName text

-- the characters of a name
abbrev pub name_bytes : Name → List ℕ
name_bytes name = take name.size name.store

-- the message has this name
abbrev pub HasName : Option Name → List ℕ → Type 0
HasName None text = ⊥
HasName (Some name) text = name_bytes name ≡ text

-- the name in a field of the message; without the field it has none
abbrev pub SaysName : Option Data → Option Name → Type 0
SaysName None name = name ≡ None
SaysName (Some d) name = (text : List ℕ) × (d ≡ string text) × HasName name text
