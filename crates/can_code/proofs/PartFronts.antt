-- The front that each prefix of a stuffed part makes, and the level that is next.
use Rattle.std.proofs.Common.{◌≡◌, ◌≢◌, ℕ, ◌+◌, ◌<◌, ◌≤◌, false, ◌&&◌, Some, List, [], ◌∷◌, ◌++◌, length, take, drop, refl, sym, ◌∙◌, ap, subst, arith, append_assoc}
use Rattle.std.specs.Option.{option_and_then}
use Rattle.std.proofs.lemmas.List.{append-nil, take_more, take_all, drop_more, take_at, take-append-drop, length-take-le, get_or_at}
use Rattle.std.proofs.lemmas.Bool.{eq-eqb, both_ways}
use Rattle.can_frame.specs.declared.level.Level.{Level}
use Rattle.can_frame.specs.declared.level.Level.TheVariants.{Dominant, Recessive}
use Rattle.can_frame.specs.Levels.{same, opposite}
use Rattle.can_code.specs.declared.front.Place.TheVariants.{CrcDelimiter}
use Rattle.can_wire.specs.Stuffing.{kept, Stuffs}
use Rattle.can_wire.specs.Layout.{level_at, IsComplete, IsPart}
use Rattle.can_code.specs.Front.{FrontParts, first_front, next_place, is_stuff_error, heard_level, heard_levels}
use Rattle.can_wire.proofs.StuffPlaces.{is_due, Inserts, kept-within, kept-append}
use Rattle.can_wire.proofs.Runs.{is_due-long}
use Rattle.can_wire.proofs.StuffedFronts.{Stuffs-goes_on}
use Rattle.can_code.proofs.StuffedParts.{IsPart-length, IsPart-start}
use Rattle.can_code.proofs.FrontLemmas.{next_place-complete}
use Rattle.can_code.proofs.FrontsOf.{IsFrontOf, IsFrontOf-first_front, IsFrontOf-stuffs, IsFrontOf-heard_level}
use Rattle.can_code.proofs.HeardLevels.{hear_at-going, IsFrontOf-goes_on}

-- the front that levels make after another front
abbrev pub front_after : FrontParts → List Level → FrontParts
front_after f [] = f
front_after f (x ∷ xs) = front_after (heard_level f x) xs

-- the front that levels make, of which the first is the start of frame
abbrev pub front_made : List Level → FrontParts
front_made b = front_after first_front (drop 1 b)

front_after-push : (f : FrontParts) (xs : List Level) (x : Level) → front_after f (xs ++ x ∷ []) ≡ heard_level (front_after f xs) x
front_after-push f [] x = refl
front_after-push f (y ∷ xs) x = front_after-push (heard_level f y) xs x

-- it grows level by level
pub front_made-push : (b : List Level) (x : Level) → 0 < length b → front_made (b ++ x ∷ []) ≡ heard_level (front_made b) x
front_made-push [] x some = absurd (omega arith)
front_made-push (y ∷ b) x some = front_after-push first_front b x

-- levels of a stuffed part make the front of all that has been heard
front_after-heard : (xs p ys u : List Level) (f : FrontParts) → IsFrontOf p f → IsPart u (p ++ (xs ++ ys))
    → IsFrontOf (p ++ xs) (front_after f xs) × (heard_levels f xs ≡ Some (front_after f xs))
front_after-heard [] p ys u f r part = (subst (λ b. IsFrontOf b f) (sym (append-nil p)) r, refl)
front_after-heard (x ∷ xs) p ys u f r part =
    let on = IsFrontOf-goes_on p f u x (xs ++ ys) r part in
    let next = IsFrontOf-heard_level p f r x on.0 on.1 in
    let rest = front_after-heard xs (p ++ x ∷ []) ys u (heard_level f x) next (subst (IsPart u) (sym (append_assoc p (x ∷ []) (xs ++ ys))) part) in (
      subst (λ b. IsFrontOf b (front_after (heard_level f x) xs)) (append_assoc p (x ∷ []) xs) rest.0,
      ap (option_and_then (λ h. heard_levels h xs)) (hear_at-going f x (next_place f) on.0 on.1) ∙ rest.1,
    )

beginning_heard : (u p ys : List Level) → 0 < length p → IsPart u (p ++ ys) → IsFrontOf p (front_made p) × (heard_levels first_front (drop 1 p) ≡ Some (front_made p))
beginning_heard u [] ys some part = absurd (omega arith)
beginning_heard u (Dominant ∷ xs) ys some part = front_after-heard xs (Dominant ∷ []) ys u first_front IsFrontOf-first_front part
beginning_heard u (Recessive ∷ xs) ys some part = absurd (IsPart-start u (Recessive ∷ (xs ++ ys)) [] (xs ++ ys) part (append-nil (Recessive ∷ (xs ++ ys))))

-- the unstuffed levels of a beginning begin those of the whole
begins_unstuffed : (u v p ys : List Level) → Inserts u p → Stuffs v (p ++ ys) → v ≡ u ++ kept (p ++ ys) (length p) ys
begins_unstuffed u v p ys r s =
    let start : 0 + length p ≡ length p = omega arith in
    sym s.rest ∙ kept-append (p ++ ys) p ys 0
    ∙ ap (λ k. kept (p ++ ys) 0 p ++ kept (p ++ ys) k ys) start
    ∙ ap (λ t. t ++ kept (p ++ ys) (length p) ys) (kept-within p ys p 0 (omega arith) ∙ r.rest)

-- of two levels that differ one is the other's opposite
pub opposite_from : (x y : Level) → same x y ≡ false → x ≡ opposite y
opposite_from Dominant Recessive h = refl
opposite_from Recessive Dominant h = refl
opposite_from Dominant Dominant h = cc
opposite_from Recessive Recessive h = cc

-- the first o levels of a stuffed part b, whose unstuffed levels are u
module _ (u b : List Level) (part : IsPart u b) (o : ℕ) (some : 0 < o) where
  module _ (within : o ≤ length b) where
    size : length (take o b) ≡ o
    size = length-take-le o b within

    heard : IsFrontOf (take o b) (front_made (take o b)) × (heard_levels first_front (drop 1 (take o b)) ≡ Some (front_made (take o b)))
    heard = beginning_heard u (take o b) (drop o b) (omega (arith, size)) (subst (IsPart u) (sym (take-append-drop o b)) part)

    -- they make a front
    pub part-front : IsFrontOf (take o b) (front_made (take o b))
    part-front = heard.0

    -- which is heard
    pub part-heard : heard_levels first_front (drop 1 (take o b)) ≡ Some (front_made (take o b))
    part-heard = heard.1

    -- its unstuffed levels begin u
    pub part-begins : take (length (front_made (take o b)).unstuffed) u ≡ (front_made (take o b)).unstuffed
    part-begins =
        let v = (front_made (take o b)).unstuffed in
        let whole = begins_unstuffed v u (take o b) (drop o b) part-front.inserts (subst (Stuffs u) (sym (take-append-drop o b)) part.stuffs) in
        ap (take (length v)) whole ∙ take_at v _ (length v) refl

  -- if more levels follow
  module _ (more : o < length b) where
    here : IsFrontOf (take o b) (front_made (take o b))
    here = part-front (omega arith)

    whole : take o b ++ level_at b o ∷ drop (o + 1) b ≡ b
    whole = ap (λ t. take o b ++ t) (sym (drop_more b o Dominant more)) ∙ take-append-drop o b

    on : (next_place (front_made (take o b)) ≢ CrcDelimiter) × (is_stuff_error (front_made (take o b)) (level_at b o) ≡ false)
    on = IsFrontOf-goes_on (take o b) (front_made (take o b)) u (level_at b o) (drop (o + 1) b) here (subst (IsPart u) (sym whole) part)

    -- the stuffed part has not ended
    pub part-going : next_place (front_made (take o b)) ≢ CrcDelimiter
    part-going = on.0

    -- the next level is no wrong stuff bit
    pub part-no_error : is_stuff_error (front_made (take o b)) (level_at b o) ≡ false
    part-no_error = on.1

    -- with it the front is the next one
    pub part-next : front_made (take (o + 1) b) ≡ heard_level (front_made (take o b)) (level_at b o)
    part-next = ap front_made (take_more b o Dominant more) ∙ front_made-push (take o b) (level_at b o) (omega (arith, size (omega arith)))

    -- at a stuff place it is the other level
    pub part-stuff_bit : (front_made (take o b)).run ≡ 5 → level_at b o ≡ opposite (front_made (take o b)).last
    part-stuff_bit five =
        let f = front_made (take o b) in
        let x = level_at b o in
        opposite_from x f.last (sym (ap (λ t. t && same x f.last) (eq-eqb f.run 5 five)) ∙ on.1)

    -- at another place it is the next unstuffed level
    bit : (front_made (take o b)).run ≢ 5 → (w : List Level) × (u ≡ (front_made (take o b)).unstuffed ++ level_at b o ∷ w)
    bit other =
        Stuffs-goes_on (front_made (take o b)).unstuffed u (take o b) (level_at b o) (drop (o + 1) b)
        (IsFrontOf-stuffs (take o b) (front_made (take o b)) here other) (subst (Stuffs u) (sym whole) part.stuffs)

    pub part-bit : (front_made (take o b)).run ≢ 5 → level_at b o ≡ level_at u (length (front_made (take o b)).unstuffed)
    part-bit other =
        let goes_on = bit other in
        let v = (front_made (take o b)).unstuffed in
        sym (ap (λ t. level_at t (length v)) goes_on.1 ∙ get_or_at v (level_at b o) goes_on.0 Dominant (length v) refl)

-- all of a stuffed part
module _ (u b : List Level) (part : IsPart u b) where
  all : take (length b) b ≡ b
  all = take_all (length b) b (omega arith)

  made : IsFrontOf b (front_made (take (length b) b))
  made =
      let some : 0 < length b = omega (arith, IsPart-length u b part) in
      subst (λ t. IsFrontOf t (front_made (take (length b) b))) all (part-front u b part (length b) some (omega arith))

  -- has just these unstuffed levels
  pub part-unstuffed : (front_made (take (length b) b)).unstuffed ≡ u
  part-unstuffed = sym made.inserts.rest ∙ part.stuffs.rest

  -- and has ended
  pub part-ended : next_place (front_made (take (length b) b)) ≡ CrcDelimiter
  part-ended =
      let f = front_made (take (length b) b) in
      let free : f.run ≢ 5 = λ five. both_ways (is_due b) part.stuffs.end (is_due-long b f.last f.run made.ends (omega arith)) in
      next_place-complete f free (subst IsComplete (sym part-unstuffed) part.complete)
