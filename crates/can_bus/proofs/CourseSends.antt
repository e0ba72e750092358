-- Each offer of a course has one attempt that sends it: a field has the same number of offers and of attempts that send a frame of it.
use Rattle.std.specs.Prelude.{slice_get, take}
use Rattle.std.proofs.Common.{◌≡◌, ℕ, suc, ◌<◌, true, false, None, Some, List, ◌∷◌, ◌++◌, length, get_or, refl, sym, ◌∙◌, ap, inl, inr, arith}
use Rattle.std.proofs.lemmas.Bool.{cases_Bool}
use Rattle.std.proofs.lemmas.List.{length-append}
use Rattle.std.proofs.lemmas.Option.{slice_get-get_or}
use Rattle.can_frame.specs.Parts.{Parts}
use Rattle.can_frame.specs.Arbitration.{arbitration_field}
use Rattle.can_node.specs.Ports.{same_field}
use Rattle.can_node.proofs.WaitingLemmas.{Shares-same_field, same_field-Shares}
use Rattle.can_terms.specs.declared.hit.Hit.{Hit}
use Rattle.can_bus.specs.Course.{IsCourse, IsNext, Transmission, attempted, over}
use Rattle.can_bus.specs.CourseWaiting.{IsSentBy, of_field, sends_of}
use Rattle.can_bus.specs.Timed.{TimedParts, Lists, without_offer}
use Rattle.can_bus.proofs.CourseDelays.{parted}
use Rattle.can_bus.proofs.CourseWaits.{sends-hit, sends-more, sends-other}
use Rattle.can_bus.proofs.Fields.{field-more, field-without, without-length}
use Rattle.can_bus.proofs.Members.{filter-stands, stands-filter}
use Rattle.can_bus.proofs.LeftOffers.{offered-stands}
use Rattle.can_bus.proofs.OwnedFields.{field-append}
use Rattle.can_bus.proofs.OwnOffers.{without-absent}

-- ---- what one attempt takes from the offers of a field

module _ (free time : ℕ) (g : Parts) (left : List TimedParts) (is : IsNext free left time g) (f : Parts) where
  one-gone : same_field f g ≡ true → length (of_field f left) ≡ suc (length (of_field f (without_offer g left)))
  one-gone same =
      let there = offered-stands time left g (is.waits.place, is.waits.stands) in
      let of_g : same_field g there.0.frame ≡ true = Shares-same_field g there.0.frame (sym (ap arbitration_field there.3)) in
      let of_f : same_field f there.0.frame ≡ true = ap (same_field f) there.3 ∙ same in
      let own : Lists (of_field f left) there.0 = stands-filter (λ (x : TimedParts). same_field f x.frame) left there.0 there.1 of_f in
      without-length g (of_field f left) there.0 own of_g ∙ ap (λ (l : List TimedParts). suc (length l)) (sym (field-without f g left))

  none-gone : same_field f g ≡ false → of_field f (without_offer g left) ≡ of_field f left
  none-gone other =
      field-without f g left
      ∙ without-absent g (of_field f left) (λ y there e. (
      let passed : same_field f y.frame ≡ true = (filter-stands (λ (z : TimedParts). same_field f z.frame) left y there).1 in
      let same : same_field f g ≡ true = Shares-same_field f g (same_field-Shares f y.frame passed ∙ sym e) in
      cc))

-- ---- all of them

sends-all : {hits : List Hit} {number free : ℕ} {left : List TimedParts} {course : List Transmission} → IsCourse hits number free left course → (f : Parts) →
    length (sends_of f course) ≡ length (of_field f left)
sends-all (over number free) f = refl
sends-all (attempted number free time g None left course is unhit window rest) f = elim (cases_Bool (same_field f g)) [
  | inl same ↦ ap length (sends-more f time g course same) ∙ ap suc (sends-all rest f) ∙ sym (one-gone free time g left is f same)
  | inr other ↦ ap length (sends-other f time g course other) ∙ sends-all rest f ∙ ap length (none-gone free time g left is f other)
]
sends-all (attempted number free time g (Some offset) left course is struck window rest) f = ap length (sends-hit f time g course offset) ∙ sends-all rest f

-- so the attempt of an offer's turn is made
pub each-sent : (hits : List Hit) (offers : List TimedParts) (course : List Transmission) → IsCourse hits 0 0 offers course → (place : ℕ) (offer : TimedParts) → slice_get offers place ≡ Some offer →
    (s : Transmission) × IsSentBy offers course place offer s × ((z : Transmission) → IsSentBy offers course place offer z → z ≡ s)
each-sent hits offers course is place offer at =
    let f = offer.frame in
    let own = sends_of f course in
    let before = take place offers in
    let turn = length (of_field f before) in
    let parts = parted offers place offer at in
    let all : of_field f offers ≡ of_field f before ++ (offer ∷ of_field f parts.0) =
    ap (of_field f) parts.1 ∙ field-append f before (offer ∷ parts.0) ∙ ap (λ l. of_field f before ++ l) (field-more f offer parts.0 (Shares-same_field f f refl)) in
    let within : turn < length own = omega (arith, sends-all is f, ap length all, length-append (of_field f before) (offer ∷ of_field f parts.0)) in
    let none : Transmission = record { time = 0; frame = f; hit = None } in
    let there : slice_get own turn ≡ Some (get_or own turn none) = slice_get-get_or own turn none within in (
      get_or own turn none,
      record { is_offer = at; is_attempt = there },
      λ z by. let e : Some z ≡ Some (get_or own turn none) = sym by.is_attempt ∙ there in cc,
    )
