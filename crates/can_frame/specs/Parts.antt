-- A frame, as contracts see it: the values that its getters return. (Bosch CAN 2.0 part B, sections 3.2.1 and 3.2.2)
use Rattle.std.specs.Prelude.{◌≡◌, ℕ, Bool, ◌<◌, ◌==◌, min, if◌then◌else◌, List, length, slice_index}
use Rattle.std.specs.Bool.{beq}
use Rattle.std.specs.Cmp.Lexicographic.{pointwise}
use Rattle.std.specs.Ordering.{on, eq_of_both}
use Rattle.can_frame.specs.Ident.{Ident, IsIdent, same_ident}

pub record Parts : Type 0 where
  pub id : Ident
  pub remote : Bool
  pub dlc : ℕ
  pub bytes : List ℕ

-- how many data bytes a frame has: none in a remote frame, otherwise the lesser of the DLC and 8
abbrev pub byte_count : Bool → ℕ → ℕ
byte_count remote dlc = if remote then 0 else min dlc 8

-- what is true of every frame: identifier and DLC in range, and the data bytes that its kind and DLC require
pub record IsFrame (f : Parts) : Type 0 where
  pub id : IsIdent f.id
  pub dlc : f.dlc < 16
  pub count : length f.bytes ≡ byte_count f.remote f.dlc
  pub small : (k : ℕ) → slice_index f.bytes k < 256

-- whether two frames agree in all their parts
abbrev pub same_parts : Parts → Parts → Bool
same_parts =
    eq_of_both (on (λ f. f.id) same_ident)
    (eq_of_both (on (λ f. f.remote) beq) (eq_of_both (on (λ f. f.dlc) ◌==◌) (on (λ f. f.bytes) (pointwise ◌==◌))))
