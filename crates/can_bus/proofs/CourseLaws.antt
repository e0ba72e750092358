-- Offers and hits have exactly one course, if each hit falls in the window of the frame that its attempt sends.
use Rattle.std.specs.Prelude.{max}
use Rattle.std.proofs.Common.{◌≡◌, ℕ, zero, suc, ◌+◌, ◌≤◌, Option, Some, None, List, [], ◌∷◌, length, refl, sym, ap, subst, ◌∙◌, arith, inl, inr}
use Rattle.can_frame.specs.Parts.{Parts}
use Rattle.can_frame.specs.Arbitration.{arbitration_field}
use Rattle.can_node.specs.Ports.{waiting}
use Rattle.can_node.specs.Waiting.{IsWaiting}
use Rattle.can_node.proofs.WaitingLaws.{waiting-IsWaiting, waiting-some, waits}
use Rattle.can_node.proofs.WaitingLemmas.{Shares-same_field}
use Rattle.can_terms.specs.declared.hit.Hit.{Hit}
use Rattle.can_bus.specs.Course.{FallsInWindow, HitInWindows, IsCourse, IsNext, Transmission, and_hit, attempt_of, attempted, course_from, course_of, keeping, left_by, over}
use Rattle.can_bus.specs.Attempts.{hit_of}
use Rattle.can_bus.specs.Timed.{TimedParts, earliest, offered_by, without_offer}
use Rattle.can_bus.proofs.Fields.{without-length}
use Rattle.can_bus.proofs.LeftOffers.{earliest-each, earliest-is, offered-stands, stands-offered}
use Rattle.can_bus.proofs.RepairPlans.{few-before, hit-counts, hits_before}

-- ---- it is one

module _ (free : ℕ) (left : List TimedParts) (t u : ℕ) (f g : Parts) (one : IsNext free left t f) (other : IsNext free left u g) where
  no-later : t ≤ u
  no-later =
      let there = offered-stands u left g (other.waits.place, other.waits.stands) in
      let soon = one.soon there.0 there.1 in
      omega (arith, soon, there.2, other.is_free)

next-time : (free : ℕ) (left : List TimedParts) (t u : ℕ) (f g : Parts) → IsNext free left t f → IsNext free left u g → t ≡ u
next-time free left t u f g one other = omega (arith, no-later free left t u f g one other, no-later free left u t g f other one)

-- ---- there is one

-- if offers are left one of them waits at the earliest time
pub frame-there : (free : ℕ) (x : TimedParts) (others : List TimedParts) → (f : Parts) × (waiting (offered_by (max free (earliest x others)) (x ∷ others)) ≡ Some f)
frame-there free x others =
    let time = max free (earliest x others) in
    let first = earliest-is x others in
    let at = stands-offered time (x ∷ others) first.0 first.1 (let e = first.2 in omega arith) in
    waiting-some (offered_by time (x ∷ others)) at.0 first.0.frame at.1

module _ (free : ℕ) (x : TimedParts) (others : List TimedParts) (f : Parts) (waits : waiting (offered_by (max free (earliest x others)) (x ∷ others)) ≡ Some f) where
  abbrev left : List TimedParts
  left = x ∷ others

  abbrev time : ℕ
  time = max free (earliest x others)

  next-there : IsNext free left time f
  next-there = record {
    is_free = omega arith;
    soon = λ y there. let each = earliest-each x others y there in omega arith;
    waits = waiting-IsWaiting (offered_by time left) f waits;
  }

  one-less : length left ≡ suc (length (without_offer f left))
  one-less =
      let is : IsWaiting (offered_by time left) f = waiting-IsWaiting (offered_by time left) f waits in
      let there = offered-stands time left f (is.place, is.stands) in
      without-length f left there.0 there.1 (Shares-same_field f there.0.frame (sym (ap arbitration_field there.3)))

-- an attempt uses up an offer, or a hit
left-length : (f : Parts) (hit : Option ℕ) (left : List TimedParts) → length left ≡ suc (length (without_offer f left)) → length (left_by f hit left) ≡ and_hit hit (length (without_offer f left))
left-length f None left less = refl
left-length f (Some offset) left less = omega (arith, less)

module _ (hits : List Hit) where
  there-from : (count number free : ℕ) (left : List TimedParts) → length left + length hits ≤ count + hits_before hits number → HitInWindows (course_from count hits number free left) →
      IsCourse hits number free left (course_from count hits number free left)
  there-from zero number free [] enough windows = over number free
  there-from (suc count) number free [] enough windows = over number free
  there-from zero number free (x ∷ others) enough windows = absurd (omega (arith, enough, few-before hits number))
  there-from (suc count) number free (x ∷ others) enough windows =
      let first = frame-there free x others in
      let f = first.0 in
      let left : List TimedParts = x ∷ others in
      let time : ℕ = max free (earliest x others) in
      let hit : Option ℕ = hit_of hits number in
      let behind : Parts → List Transmission = λ g. course_from count hits (number + 1) (time + keeping g hit) (left_by g hit left) in
      let same : course_from (suc count) hits number free left ≡ record { time = time; frame = f; hit = hit } ∷ behind f = ap (attempt_of behind time hit) first.1 in
      let all : HitInWindows (record { time = time; frame = f; hit = hit } ∷ behind f) = subst HitInWindows same windows in
      let less = one-less free x others f first.1 in
      subst (IsCourse hits number free left) (sym same)
      (attempted number free time f hit left (behind f) (next-there free x others f first.1) refl (all (record { time = time; frame = f; hit = hit }) (inl refl))
      (there-from count (number + 1) (time + keeping f hit) (left_by f hit left)
      (omega (arith, enough, less, left-length f hit left less, hit-counts hits number hit refl (length (without_offer f left)))) (λ s made. all s (inr made))))

  pub course-there : (offers : List TimedParts) → HitInWindows (course_of hits offers) → IsCourse hits 0 0 offers (course_of hits offers)
  unfolding course_of
  course-there offers windows = there-from (length offers + length hits) 0 0 offers (omega arith) windows

-- so it is the one that is computed
course-windows : {hits : List Hit} {number free : ℕ} {left : List TimedParts} {course : List Transmission} → IsCourse hits number free left course → HitInWindows course
course-windows (over number free) s made = absurd made
course-windows (attempted number free _ f hit _ course is told window rest) s (inl here) = subst (λ (z : Transmission). FallsInWindow z.frame z.hit) here window
course-windows (attempted number free _ f hit _ course is told window rest) s (inr made) = course-windows rest s made

-- ---- and no other

none-next : (free t : ℕ) (f : Parts) → IsNext free [] t f → ⊥
none-next free t f is = let h : None ≡ Some f = is.waits.stands in cc

module _ (hits : List Hit) (count number free : ℕ) (x : TimedParts) (others : List TimedParts) (time : ℕ) (f : Parts) (is : IsNext free (x ∷ others) time f) where
  abbrev all_left : List TimedParts
  all_left = x ∷ others

  first-time : time ≡ max free (earliest x others)
  first-time = let first = frame-there free x others in next-time free all_left time (max free (earliest x others)) f first.0 is (next-there free x others first.0 first.1)

  first-waits : waiting (offered_by (max free (earliest x others)) all_left) ≡ Some f
  first-waits = ap (λ k. waiting (offered_by k all_left)) (sym first-time) ∙ (waits (offered_by time all_left) f).1 is.waits

  abbrev behind_at : ℕ → Option ℕ → Parts → List Transmission
  behind_at k hit g = course_from count hits (number + 1) (k + keeping g hit) (left_by g hit all_left)

  first-made : (hit : Option ℕ) → hit_of hits number ≡ hit → course_from (suc count) hits number free all_left ≡ record { time = time; frame = f; hit = hit } ∷ behind_at time hit f
  first-made hit e =
      let t = max free (earliest x others) in
      ap (λ h. attempt_of (behind_at t h) t h (waiting (offered_by t all_left))) e
      ∙ ap (attempt_of (behind_at t hit) t hit) first-waits
      ∙ ap (λ k. attempt_of (behind_at k hit) k hit (Some f)) (sym first-time)

pub course-is : {hits : List Hit} {number free : ℕ} {left : List TimedParts} {course : List Transmission} (count : ℕ) → IsCourse hits number free left course →
    length left + length hits ≤ count + hits_before hits number → course ≡ course_from count hits number free left
course-is zero (over number free) enough = refl
course-is (suc count) (over number free) enough = refl
course-is count (attempted number free time f hit [] course is told window rest) enough = absurd (none-next free time f is)
course-is {hits} zero (attempted number free time f hit (x ∷ others) course is told window rest) enough = absurd (omega (arith, enough, few-before hits number))
course-is {hits} (suc count) (attempted number free time f hit (x ∷ others) course is told window rest) enough =
    let less = one-less free x others f (first-waits hits count number free x others time f is) in
    ap (λ l. let s : Transmission = record { time = time; frame = f; hit = hit } in s ∷ l)
    (course-is count rest (omega (arith, enough, less, left-length f hit (x ∷ others) less, hit-counts hits number hit told (length (without_offer f (x ∷ others))))))
    ∙ sym (first-made hits count number free x others time f is hit told)

pub course-only : (hits : List Hit) (offers : List TimedParts) (course : List Transmission) → IsCourse hits 0 0 offers course → (course ≡ course_of hits offers) × HitInWindows course
unfolding course_of
course-only hits offers course is = (course-is (length offers + length hits) is (omega arith), course-windows is)
