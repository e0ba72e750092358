-- A course in terms of releases: which of them each attempt sends.
use Rattle.std.proofs.Common.{◌≡◌, ◌≢◌, ℕ, zero, suc, ◌+◌, ◌<◌, ◌≤◌, ◌⊎◌, Some, None, List, [], ◌∷◌, ◌++◌, length, map, refl, sym, ◌∙◌, ap, subst, inl, inr, arith}
use Rattle.std.proofs.lemmas.Bool.{cond-true, cond-false, cases_Bool}
use Rattle.can_frame.specs.Parts.{Parts, IsFrame}
use Rattle.can_frame.specs.Arbitration.{arbitration_field, Before}
use Rattle.can_node.specs.Ports.{same_field}
use Rattle.can_node.proofs.WaitingLemmas.{Shares-same_field}
use Rattle.can_terms.specs.declared.hit.Hit.{Hit}
use Rattle.can_bus.specs.Course.{Transmission, IsNext, IsCourse, over, attempted, hit_time}
use Rattle.can_bus.specs.CourseWaiting.{of_field}
use Rattle.can_bus.specs.Attempts.{IsInWindow}
use Rattle.can_bus.specs.Quiet.{busy_time}
use Rattle.can_bus.specs.Timed.{TimedParts, without_offer}
use Rattle.can_bus.proofs.CourseDelays.{course-costs}
use Rattle.can_bus.proofs.CourseWaits.{FieldsInOrder, fields-without, first-left, next-first}
use Rattle.can_bus.proofs.Fields.{field-more, field-skip}
use Rattle.can_bus.proofs.Members.{stands-none, stands-cases, stands-middle, stands-among, stands-map}
use Rattle.can_plan.specs.Messages.{IsIn, Release, offer_of}
use Rattle.can_plan.proofs.Windows.{IsNextOf}
use Rattle.can_plan.proofs.Moves.{IsHitIn, sent_attempt, broken_attempt}

pub data Runs : ℕ → List Release → List Transmission → Type 0 where
  none : (free : ℕ) → Runs free [] []
  whole : (free start : ℕ) (x : Release) (before after : List Release) (course : List Transmission) → IsNextOf free start x before after →
      Runs (start + busy_time x.frame) (before ++ after) course → Runs free (before ++ x ∷ after) (sent_attempt start x.frame ∷ course)
  struck : (free start : ℕ) (x : Release) (before after : List Release) (offset : ℕ) (course : List Transmission) → IsNextOf free start x before after → IsHitIn x.frame offset →
      Runs (start + hit_time x.frame offset) (before ++ x ∷ after) course → Runs free (before ++ x ∷ after) (broken_attempt start x.frame offset ∷ course)

-- ---- the first release of a field

record Found (releases : List Release) (f : Parts) (time : ℕ) : Type 0 where
  before : List Release
  element : Release
  after : List Release
  parts : releases ≡ before ++ element ∷ after
  is_frame : element.frame ≡ f
  in_time : element.offered ≤ time
  foremost : (z : Release) → IsIn before z → arbitration_field z.frame ≢ arbitration_field element.frame
  rest : without_offer f (map offer_of releases) ≡ map offer_of (before ++ after)

module _ (f : Parts) (time : ℕ) where
  find : (releases : List Release) (offer : TimedParts) (more : List TimedParts) → of_field f (map offer_of releases) ≡ offer ∷ more → offer.frame ≡ f → offer.time ≤ time → Found releases f time
  find [] offer more first e early = absurd (let h : [] ≡ offer ∷ more = first in cc)
  find (x ∷ releases) offer more first e early =
      elim (cases_Bool (same_field f x.frame)) [
        | inl same ↦
            let both : offer_of x ∷ of_field f (map offer_of releases) ≡ offer ∷ more = sym (field-more f (offer_of x) (map offer_of releases) same) ∙ first in
            let one : offer_of x ≡ offer = cc in
            record {
              before = [];
              element = x;
              after = releases;
              parts = refl;
              is_frame = ap (λ (z : TimedParts). z.frame) one ∙ e;
              in_time = subst (λ (z : TimedParts). z.time ≤ time) (sym one) early;
              foremost = λ z s. absurd (stands-none z s);
              rest = cond-true (same_field f x.frame) (map offer_of releases) (offer_of x ∷ without_offer f (map offer_of releases)) same;
            }
        | inr other ↦
            let found = find releases offer more (sym (field-skip f (offer_of x) (map offer_of releases) other) ∙ first) e early in
            record {
              before = x ∷ found.before;
              element = found.element;
              after = found.after;
              parts = ap (λ l. x ∷ l) found.parts;
              is_frame = found.is_frame;
              in_time = found.in_time;
              foremost = λ z s. elim (stands-cases x found.before z s) [
                | inl here ↦ λ h. (let same = Shares-same_field f x.frame (ap arbitration_field (sym found.is_frame) ∙ sym h ∙ ap (λ (y : Release). arbitration_field y.frame) (sym here)) in cc)
                | inr later ↦ found.foremost z later
              ];
              rest = cond-false (same_field f x.frame) (map offer_of releases) (offer_of x ∷ without_offer f (map offer_of releases)) other ∙ ap (λ l. offer_of x ∷ l) found.rest;
            }
      ]

-- ---- an attempt

module _ (free time : ℕ) (f : Parts) (releases : List Release) (next : IsNext free (map offer_of releases) time f) (order : FieldsInOrder (map offer_of releases)) where
  first-found : Found releases f time
  first-found = let head = first-left free (map offer_of releases) time f next order in find f time releases head.offer head.more head.first head.frame head.in_time

  next-of : (found : Found releases f time) → IsNextOf free time found.element found.before found.after
  next-of found = record {
    in_time = found.in_time;
    is_free = next.is_free;
    soon = λ z s. next.soon (offer_of z) (stands-map offer_of releases z (there z s));
    first = λ z s early. subst (λ g. Before (arbitration_field g) (arbitration_field z.frame) ⊎ (arbitration_field g ≡ arbitration_field z.frame)) (sym found.is_frame)
        (next-first free (map offer_of releases) (sent_attempt time f) next (offer_of z) (stands-map offer_of releases z (there z s)) early);
    foremost = found.foremost;
  }
    where
      there : (z : Release) → IsIn (found.before ++ found.element ∷ found.after) z → IsIn releases z
      there z s = subst (λ l. IsIn l z) (sym found.parts) s

hit-behind : (f : Parts) (offset : ℕ) → IsInWindow f offset → 1 ≤ offset
hit-behind f zero window = absurd (let h : length (arbitration_field f) < 0 = window.behind_field in omega arith)
hit-behind f (suc offset) window = omega arith

-- ---- the course

pub runs-of : {hits : List Hit} {number free : ℕ} {left : List TimedParts} {course : List Transmission} → IsCourse hits number free left course →
    (releases : List Release) → map offer_of releases ≡ left → FieldsInOrder (map offer_of releases) → ((r : Release) → IsIn releases r → IsFrame r.frame) → Runs free releases course
runs-of (over number free) [] same order frames = none free
runs-of (over number free) (x ∷ releases) same order frames = absurd (let h : offer_of x ∷ map offer_of releases ≡ [] = same in cc)
runs-of (attempted number free time f None left course next unhit window more) releases same order frames =
    let at : IsNext free (map offer_of releases) time f = subst (λ l. IsNext free l time f) (sym same) next in
    let found = first-found free time f releases at order in
    let rest : map offer_of (found.before ++ found.after) ≡ without_offer f left = sym found.rest ∙ ap (without_offer f) same in
    subst (λ l. Runs free l (sent_attempt time f ∷ course)) (sym found.parts)
    (subst (λ g. Runs free (found.before ++ found.element ∷ found.after) (sent_attempt time g ∷ course)) found.is_frame
    (whole free time found.element found.before found.after course (next-of free time f releases at order found)
    (subst (λ g. Runs (time + busy_time g) (found.before ++ found.after) course) (sym found.is_frame)
    (runs-of more (found.before ++ found.after) rest
    (subst FieldsInOrder found.rest (fields-without f (map offer_of releases) order))
    (λ r s. frames r (subst (λ l. IsIn l r) (sym found.parts) (stands-among found.before found.element found.after r s)))))))
runs-of (attempted number free time f (Some offset) left course next is_hit window more) releases same order frames =
    let at : IsNext free (map offer_of releases) time f = subst (λ l. IsNext free l time f) (sym same) next in
    let found = first-found free time f releases at order in
    let is : IsFrame f = subst IsFrame found.is_frame (frames found.element (subst (λ l. IsIn l found.element) (sym found.parts) (stands-middle found.before found.element found.after))) in
    let hit : IsHitIn f offset = record {
      behind = hit-behind f offset window;
      before_last = window.before_last;
      cost = course-costs (attempted number free time f (Some offset) left course next is_hit window more) (broken_attempt time f offset) (inl refl) is;
    } in
    subst (λ l. Runs free l (broken_attempt time f offset ∷ course)) (sym found.parts)
    (subst (λ g. Runs free (found.before ++ found.element ∷ found.after) (broken_attempt time g offset ∷ course)) found.is_frame
    (struck free time found.element found.before found.after offset course (next-of free time f releases at order found)
    (subst (λ g. IsHitIn g offset) (sym found.is_frame) hit)
    (subst (λ g. Runs (time + hit_time g offset) (found.before ++ found.element ∷ found.after) course) (sym found.is_frame)
    (subst (λ l. Runs (time + hit_time f offset) l course) found.parts
    (runs-of more releases same order frames)))))
