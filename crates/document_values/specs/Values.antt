-- Values of a TOML document, and how fields are read. (docs/FORMATS.md, docs/CONFORMANCE.md)
use Rattle.std.specs.Prelude.{◌≡◌, ℕ, ◌≤◌, pos, Bool, true, false, ◌&&◌, List, [], ◌∷◌, Option, Some, None, IsUtf8}
use Rattle.std.specs.List.{list_any}
use Rattle.toml.specs.Data.{Data, string, integer, boolean, array, table, Items, no_items, item, Members, no_members, member, get_member, same_key}
use Rattle.toml.specs.Parse.{parse_document}
use Rattle.can_frame.specs.Parts.{Parts, IsFrame}
use Rattle.can_frame.specs.Text.{frame_text, IsFrameText}

-- ---- the document

-- the bytes are this document, in UTF-8
pub record IsDocument (bytes : List ℕ) (document : Data) : Type 0 where
  pub utf8 : IsUtf8 bytes
  pub members : Members
  pub parsed : parse_document bytes ≡ Some members
  pub is_table : document ≡ table members

-- ---- fields

-- the fields of a table
abbrev pub members_in : Data → Members
members_in (table members) = members
members_in _ = no_members

-- each field of the table has one of these names
abbrev pub are_known : List (List ℕ) → Members → Bool
are_known names no_members = true
are_known names (member key d rest) = list_any (same_key key) names && are_known names rest

-- the field of this name
abbrev pub named : List ℕ → Data → Option Data
named name d = get_member name (members_in d)

-- a field that may be left out
abbrev pub IsOptional : (Data → Type 0) → Option Data → Type 0
IsOptional P None = Unit {0}
IsOptional P (Some d) = P d

-- a field that must be there
abbrev pub IsRequired : (Data → Type 0) → Option Data → Type 0
IsRequired P None = ⊥
IsRequired P (Some d) = P d

-- ---- values

-- this whole number
abbrev pub IsNumber : ℕ → Data → Type 0
IsNumber n d = d ≡ integer (pos n)

-- a whole number from 0 to the limit
abbrev pub IsUpTo : ℕ → Data → Type 0
IsUpTo limit d = (n : ℕ) × IsNumber n d × (n ≤ limit)

-- a truth value
abbrev pub IsTruthValue : Data → Type 0
IsTruthValue d = (b : Bool) × (d ≡ boolean b)

-- a table
abbrev pub IsTable : Data → Type 0
IsTable d = (members : Members) × (d ≡ table members)

-- the text of a frame
abbrev pub IsFrameValue : Data → Type 0
IsFrameValue d = (text : List ℕ) × (d ≡ string text) × IsFrameText text

-- ---- arrays

-- an array
abbrev pub IsArray : Data → Type 0
IsArray d = (items : Items) × (d ≡ array items)

-- an array of these two values
abbrev pub two : Data → Data → Data
two a b = array (item a (item b no_items))

-- an array of these three
abbrev pub three : Data → Data → Data → Data
three a b c = array (item a (item b (item c no_items)))

-- the elements of an array, as a list
abbrev pub elements_of : Items → List Data
elements_of no_items = []
elements_of (item d ds) = d ∷ elements_of ds

-- the elements of an array
abbrev pub elements : Data → List Data
elements (array items) = elements_of items
elements _ = []

-- the elements of a field; none if it is left out
abbrev pub elements_in : Option Data → List Data
elements_in None = []
elements_in (Some d) = elements d

-- two lists have the same length, and their elements are related pair by pair
abbrev pub ArePaired : {A B : Type 0} → (A → B → Type 0) → List A → List B → Type 0
ArePaired R [] [] = Unit {0}
ArePaired R [] (y ∷ ys) = ⊥
ArePaired R (x ∷ xs) [] = ⊥
ArePaired R (x ∷ xs) (y ∷ ys) = R x y × ArePaired R xs ys

-- ---- how values are read

-- the number of a field, 0 if it is no number
abbrev pub field_number : Option Data → ℕ
field_number (Some (integer (pos n))) = n
field_number _ = 0

-- the number of a field; `usual` if the field is left out
abbrev pub SaysNumber : ℕ → Option Data → ℕ → Type 0
SaysNumber usual None n = n ≡ usual
SaysNumber usual (Some d) n = IsNumber n d

-- the truth value of a field; false if the field is left out
abbrev pub SaysWhether : Option Data → Bool → Type 0
SaysWhether None b = b ≡ false
SaysWhether (Some d) b = d ≡ boolean b

-- the value is the text of this frame
abbrev pub SaysFrame : Data → Parts → Type 0
SaysFrame d f = IsFrame f × (d ≡ string (frame_text f))
