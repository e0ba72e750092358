-- Laws of Booleans.
use Rattle.std.proofs.Common.{◌≡◌, Bool, true, false, not, ◌&&◌, ◌||◌, cond, refl}
use Rattle.can_gates.specs.Circuit.{differ}

pub and_comm : (a b : Bool) → (a && b) ≡ (b && a)
and_comm true true = refl
and_comm true false = refl
and_comm false true = refl
and_comm false false = refl

pub and_self : (a : Bool) → (a && a) ≡ a
and_self true = refl
and_self false = refl

pub and_opposite : (a : Bool) → (a && not a) ≡ false
and_opposite true = refl
and_opposite false = refl

pub or_of_and : (a b : Bool) → not (not a && not b) ≡ (a || b)
or_of_and false false = refl
or_of_and false true = refl
or_of_and true b = refl

pub choice_of_or : (t a b : Bool) → ((t && a) || (not t && b)) ≡ cond t a b
choice_of_or true true b = refl
choice_of_or true false b = refl
choice_of_or false a b = refl

pub choice_of_one : (t a b : Bool) → a ≡ b → a ≡ cond t a b
choice_of_one true a b e = refl
choice_of_one false a b e = e

pub differ_of_choice : (a b : Bool) → cond a (not b) b ≡ differ a b
differ_of_choice true b = refl
differ_of_choice false b = refl
