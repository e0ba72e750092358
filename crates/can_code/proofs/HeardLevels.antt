-- Levels received one by one give a stuffed part's unstuffed levels, and end where it ends.
use Rattle.std.proofs.Common.{◌≡◌, ◌≢◌, Bool, true, false, ◌&&◌, Option, Some, None, Err, Ok, Result, List, [], ◌∷◌, ◌++◌, length, refl, sym, ◌∙◌, ap, subst, arith, append_assoc, length-append, ◌⊎◌, inl, inr, cond}
use Rattle.std.specs.Option.{option_and_then}
use Rattle.std.specs.Result.{is_err, OnOk}
use Rattle.std.proofs.Math.Dec.{eqb}
use Rattle.std.proofs.lemmas.List.{append-nil}
use Rattle.std.proofs.lemmas.Bool.{and_parts, eqb-true, false_from_ne_true, cond-false}
use Rattle.can_frame.specs.declared.level.Level.{Level}
use Rattle.can_frame.specs.Levels.{same}
use Rattle.can_code.specs.declared.front.Place.{Place}
use Rattle.can_code.specs.declared.front.Place.TheVariants.{StuffBit, Bit, CrcDelimiter}
use Rattle.can_code.specs.Front.{FrontParts, has_check, next_place, is_stuff_error, heard_level, hear_at, heard_levels}
use Rattle.can_code.proofs.StuffedParts.{IsPart-once}
use Rattle.can_code.proofs.FrontsOf.{IsFrontOf, IsFrontOf-part, IsFrontOf-heard_level, IsFrontOf-no_part, IsFrontOf-no_part_repeated}
use Rattle.can_wire.specs.Layout.{IsPart}

-- a level that is not a wrong stuff bit, if the stuffed part has not ended
pub hear_at-going : (f : FrontParts) (x : Level) (p : Place) → p ≢ CrcDelimiter → is_stuff_error f x ≡ false → hear_at p f x ≡ Some (heard_level f x)
hear_at-going f x StuffBit going no_error = cond-false (is_stuff_error f x) None (Some (heard_level f x)) no_error
hear_at-going f x Bit going no_error = refl
hear_at-going f x CrcDelimiter going no_error = absurd (going refl)

-- there is no wrong stuff bit but at a stuff place
no_error_at_bit : (f : FrontParts) (x : Level) → next_place f ≡ Bit → is_stuff_error f x ≡ false
no_error_at_bit f x at_bit = by_test (eqb f.run 5) at_bit
  where
    by_test : (due : Bool) → cond due StuffBit (cond (has_check f.unstuffed) CrcDelimiter Bit) ≡ Bit → (due && same x f.last) ≡ false
    by_test true h = cc
    by_test false h = refl

-- and no other level is heard
hear_at-some : (f g : FrontParts) (x : Level) (p : Place) → next_place f ≡ p → hear_at p f x ≡ Some g → (p ≢ CrcDelimiter) × (is_stuff_error f x ≡ false) × (g ≡ heard_level f x)
hear_at-some f g x StuffBit at heard = by_test (is_stuff_error f x) heard
  where
    by_test : (error : Bool) → cond error None (Some (heard_level f x)) ≡ Some g → (StuffBit ≢ CrcDelimiter) × (error ≡ false) × (g ≡ heard_level f x)
    by_test true h = cc
    by_test false h = (λ e. cc, refl, cc)
hear_at-some f g x Bit at heard = (λ e. cc, no_error_at_bit f x at, cc)
hear_at-some f g x CrcDelimiter at heard = cc

pub ended_or_going : (p : Place) → (p ≡ CrcDelimiter) ⊎ (p ≢ CrcDelimiter)
ended_or_going StuffBit = inr (λ e. cc)
ended_or_going Bit = inr (λ e. cc)
ended_or_going CrcDelimiter = inl refl

-- within a stuffed part a level is heard: the part has not ended, and the level is no wrong stuff bit
pub IsFrontOf-goes_on : (p : List Level) (f : FrontParts) (u : List Level) (x : Level) (xs : List Level) → IsFrontOf p f → IsPart u (p ++ x ∷ xs)
    → (next_place f ≢ CrcDelimiter) × (is_stuff_error f x ≡ false)
IsFrontOf-goes_on p f u x xs r part =
    let going : next_place f ≢ CrcDelimiter = λ ended.
    let one = IsPart-once f.unstuffed u p (p ++ x ∷ xs) (x ∷ xs) [] (IsFrontOf-part p f r ended) part (sym (append-nil (p ++ x ∷ xs))) in
    absurd (omega (arith, ap length one.1, length-append p (x ∷ xs))) in
    let no_error : is_stuff_error f x ≡ false = false_from_ne_true (is_stuff_error f x) (λ error.
    let both = and_parts (eqb f.run 5) (same x f.last) error in
    IsFrontOf-no_part_repeated p f r x (eqb-true f.run 5 both.0) both.1 u (p ++ x ∷ xs) [] xs part (append-nil (p ++ x ∷ xs))) in
    (going, no_error)

-- the levels xs after p complete a stuffed part
pub heard_levels-part : (xs p u : List Level) (f : FrontParts) → IsFrontOf p f → IsPart u (p ++ xs) → (g : FrontParts) × (heard_levels f xs ≡ Some g) × (g.unstuffed ≡ u) × (next_place g ≡ CrcDelimiter)
heard_levels-part [] p u f r part =
    let mine = subst (IsPart u) (append-nil p) part in
    elim (ended_or_going (next_place f)) [
      | inl ended ↦ (f, refl, sym r.inserts.rest ∙ mine.stuffs.rest, ended)
      | inr going ↦ absurd (IsFrontOf-no_part p f r going u p [] mine (append-nil p))
    ]
heard_levels-part (x ∷ xs) p u f r part =
    let on = IsFrontOf-goes_on p f u x xs r part in
    let more = heard_levels-part xs (p ++ x ∷ []) u (heard_level f x) (IsFrontOf-heard_level p f r x on.0 on.1) (subst (IsPart u) (sym (append_assoc p (x ∷ []) xs)) part) in
    (more.0, ap (option_and_then (λ g. heard_levels g xs)) (hear_at-going f x (next_place f) on.0 on.1) ∙ more.1, more.2, more.3)

-- what levels make of the front of p is the front of all of them
pub heard_levels-front : (xs p : List Level) (f g : FrontParts) → IsFrontOf p f → heard_levels f xs ≡ Some g → IsFrontOf (p ++ xs) g
heard_levels-front [] p f g r heard =
    let same_front : f ≡ g = cc in
    subst (IsFrontOf (p ++ [])) same_front (subst (λ b. IsFrontOf b f) (sym (append-nil p)) r)
heard_levels-front (x ∷ xs) p f g r heard =
    let next = hear_at (next_place f) f x in
    by_next next refl heard (λ h more rest. heard_levels-front xs (p ++ x ∷ []) h g more rest)
  where
    by_next : (o : Option FrontParts) → hear_at (next_place f) f x ≡ o → option_and_then (λ h. heard_levels h xs) o ≡ Some g
        → ((h : FrontParts) → IsFrontOf (p ++ x ∷ []) h → heard_levels h xs ≡ Some g → IsFrontOf ((p ++ x ∷ []) ++ xs) g) → IsFrontOf (p ++ x ∷ xs) g
    by_next None e rest go_on = cc
    by_next (Some h) e rest go_on =
        let level = hear_at-some f h x (next_place f) refl e in
        let front = subst (IsFrontOf (p ++ x ∷ [])) (sym level.2) (IsFrontOf-heard_level p f r x level.0 level.1) in
        subst (λ b. IsFrontOf b g) (append_assoc p (x ∷ []) xs) (go_on h front rest)

-- what is true of an `Ok`, if it is one
pub at_ok : {T E P : Type 0} (r : Result T E) → is_err r ≡ false → OnOk r P → P
at_ok (Ok x) e p = p
at_ok (Err x) e p = cc
