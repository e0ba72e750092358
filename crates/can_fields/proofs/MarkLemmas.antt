-- The effect of one more level on a front that takes levels as far as it can, and on the marks
-- after it.
use Rattle.std.proofs.Common.{◌≡◌, ◌≢◌, suc, ◌-◌, ◌<◌, ◌≤◌, Bool, true, false, Option, Some, None, List, [], ◌∷◌, ◌&&◌, length, take, refl, ◌∙◌, ap, subst, arith, cond}
use Rattle.std.specs.Option.{unwrap_or, option_map}
use Rattle.std.proofs.Math.Dec.{eqb}
use Rattle.std.proofs.lemmas.Bool.{eqb-false}
use denote.Enum.Bare.{sameb}
use Rattle.can_frame.specs.declared.level.Level.{Level}
use Rattle.can_frame.specs.Levels.{same}
use Rattle.can_code.specs.declared.front.Place.{Place}
use Rattle.can_code.specs.contracts.front.Place.{the_type}
use Rattle.can_code.specs.declared.front.Place.TheVariants.{StuffBit, Bit, CrcDelimiter}
use Rattle.can_code.specs.Front.{FrontParts, IsFront, has_check, hear_at, heard_level, is_stuff_error, next_place}
use Rattle.can_code.proofs.FrontLemmas.{IsFront-room, heard_level-longer}
use Rattle.can_code.proofs.HeardLevels.{hear_at-going}
use Rattle.can_fields.specs.Fields.{field_at}
use Rattle.can_fields.specs.Marks.{bit_of, stuff_bit_of, heard_to, marks_at, marks_behind, tail_marks}

-- ---- how far a front is heard

-- a level that is heard
pub heard_to-going : (f : FrontParts) (x : Level) (xs : List Level) → next_place f ≢ CrcDelimiter → is_stuff_error f x ≡ false → heard_to f (x ∷ xs) ≡ heard_to (heard_level f x) xs
heard_to-going f x xs going fine = ap (λ o. unwrap_or (option_map (λ g. heard_to g xs) o) f) (hear_at-going f x (next_place f) going fine)

-- the stuffed part has ended
pub heard_to-ended : (f : FrontParts) (x : Level) (xs : List Level) → next_place f ≡ CrcDelimiter → heard_to f (x ∷ xs) ≡ f
heard_to-ended f x xs ended = ap (λ p. unwrap_or (option_map (λ g. heard_to g xs) (hear_at p f x)) f) ended

-- a wrong stuff bit is none that is heard
hear_at-wrong : (f : FrontParts) (x : Level) (p : Place) → next_place f ≡ p → is_stuff_error f x ≡ true → hear_at p f x ≡ None
hear_at-wrong f x StuffBit at wrong = ap (λ b. cond b None (Some (heard_level f x))) wrong
hear_at-wrong f x Bit at wrong = absurd (none (eqb f.run 5) at wrong)
  where
    none : (due : Bool) → cond due StuffBit (cond (has_check f.unstuffed) CrcDelimiter Bit) ≡ Bit → (due && same x f.last) ≡ true → ⊥
    none true h w = cc
    none false h w = cc
hear_at-wrong f x CrcDelimiter at wrong = refl

pub heard_to-wrong : (f : FrontParts) (x : Level) (xs : List Level) → is_stuff_error f x ≡ true → heard_to f (x ∷ xs) ≡ f
heard_to-wrong f x xs wrong = ap (λ o. unwrap_or (option_map (λ g. heard_to g xs) o) f) (hear_at-wrong f x (next_place f) refl wrong)

-- what follows from a test for a bit
pub is_bit : (p : Place) → sameb the_type p Bit ≡ true → p ≡ Bit
is_bit StuffBit h = cc
is_bit Bit h = refl
is_bit CrcDelimiter h = cc

-- there is space for a level that is not a stuff bit
pub room_at_bit : (f : FrontParts) → IsFront f → next_place f ≡ Bit → length f.unstuffed < 118
room_at_bit f h at = by_tests (eqb f.run 5) (has_check f.unstuffed) refl refl at
  where
    by_tests : (due whole : Bool) → eqb f.run 5 ≡ due → has_check f.unstuffed ≡ whole → cond due StuffBit (cond whole CrcDelimiter Bit) ≡ Bit → length f.unstuffed < 118
    by_tests true whole d w e = cc
    by_tests false true d w e = cc
    by_tests false false d w e = IsFront-room f h (eqb-false f.run 5 d) w

hear_at-longer : (f g : FrontParts) (x : Level) (p : Place) → hear_at p f x ≡ Some g → length f.unstuffed ≤ length g.unstuffed
hear_at-longer f g x StuffBit h = by_test (is_stuff_error f x) h
  where
    by_test : (error : Bool) → cond error None (Some (heard_level f x)) ≡ Some g → length f.unstuffed ≤ length g.unstuffed
    by_test true e = cc
    by_test false e = let same_front : heard_level f x ≡ g = cc in subst (λ t. length f.unstuffed ≤ length t.unstuffed) same_front (heard_level-longer f x)
hear_at-longer f g x Bit h = let same_front : heard_level f x ≡ g = cc in subst (λ t. length f.unstuffed ≤ length t.unstuffed) same_front (heard_level-longer f x)
hear_at-longer f g x CrcDelimiter h = cc

pub heard_to-longer : (xs : List Level) (f : FrontParts) → length f.unstuffed ≤ length (heard_to f xs).unstuffed
heard_to-longer [] f = omega arith
heard_to-longer (x ∷ xs) f = by_next (hear_at (next_place f) f x) refl (λ g. heard_to-longer xs g)
  where
    by_next : (o : Option FrontParts) → hear_at (next_place f) f x ≡ o → ((g : FrontParts) → length g.unstuffed ≤ length (heard_to g xs).unstuffed)
        → length f.unstuffed ≤ length (unwrap_or (option_map (λ g. heard_to g xs) o) f).unstuffed
    by_next None at rest = omega arith
    by_next (Some g) at rest = omega (arith, hear_at-longer f g x (next_place f) at, rest g)

-- ---- the marks after a front

module _ (u : List Level) (f : FrontParts) (x : Level) (xs : List Level) where
  pub marks_behind-bit : next_place f ≡ Bit → marks_behind u f (x ∷ xs) ≡ bit_of (field_at u (length f.unstuffed)) ∷ marks_behind u (heard_level f x) xs
  marks_behind-bit at = ap (λ p. marks_at p u f x (length xs) (marks_behind u (heard_level f x) xs)) at

  pub marks_behind-stuff : next_place f ≡ StuffBit → is_stuff_error f x ≡ false
      → marks_behind u f (x ∷ xs) ≡ stuff_bit_of (field_at u (length f.unstuffed - 1)) ∷ marks_behind u (heard_level f x) xs
  marks_behind-stuff at fine =
      ap (λ p. marks_at p u f x (length xs) (marks_behind u (heard_level f x) xs)) at
      ∙ ap (λ b. stuff_bit_of (field_at u (length f.unstuffed - 1)) ∷ cond b [] (marks_behind u (heard_level f x) xs)) fine

  pub marks_behind-ended : next_place f ≡ CrcDelimiter → marks_behind u f (x ∷ xs) ≡ take (suc (length xs)) tail_marks
  marks_behind-ended at = ap (λ p. marks_at p u f x (length xs) (marks_behind u (heard_level f x) xs)) at
