-- A bound holds of a course whose frames may have been released before its first bit time.
use Rattle.std.specs.Prelude.{filter, nat_le, nat_lt, option_map, slice_get, take, ◌&&◌, ◌-◌}
use Rattle.std.proofs.Common.{◌≡◌, ℕ, zero, suc, ◌+◌, ◌≤◌, Bool, true, false, cond, Option, Some, None, List, [], ◌∷◌, length, map, refl, sym, ◌∙◌, ap, subst, arith}
use Rattle.std.proofs.lemmas.Bool.Decides.{nat_tests}
use Rattle.std.proofs.lemmas.List.{take-map}
use Rattle.std.proofs.lemmas.Option.{slice_get-map}
use Rattle.can_frame.specs.Arbitration.{arbitration_field}
use Rattle.can_frame.specs.Parts.{Parts}
use Rattle.can_wire.specs.Wire.{wire}
use Rattle.can_node.specs.Ports.{same_field}
use Rattle.can_terms.specs.declared.hit.Hit.{Hit}
use Rattle.can_bus.specs.Course.{IsCourse, Transmission}
use Rattle.can_bus.specs.CourseWaiting.{AreInTime, of_field, sends_of}
use Rattle.can_bus.specs.Shifts.{attempt_later, attempts_later, frame_later, frames_later}
use Rattle.can_bus.specs.Timed.{TimedParts}
use Rattle.can_bus.proofs.Shifts.{course-later}
use Rattle.can_plan.specs.declared.message.Message.{Message}
use Rattle.can_plan.specs.Ends.{EndAlways, EndWithin, EndWithinShifted, IsShiftedCourse}
use Rattle.can_plan.specs.Messages.{AreHitAtMost, Release, hit_times, offer_of, with_hit, within_stretch}
use Rattle.can_plan.proofs.Counts.{stretch-cons}

-- ---- lists of what is shifted

-- what a test passes that sees no shift
filter-map : {A : Type 0} (g : A → A) (test : A → Bool) → ((x : A) → test (g x) ≡ test x) → (xs : List A) → filter test (map g xs) ≡ map g (filter test xs)
filter-map g test blind [] = refl
filter-map g test blind (x ∷ xs) =
    ap (λ b. cond b (g x ∷ filter test (map g xs)) (filter test (map g xs))) (blind x)
    ∙ ap (λ l. cond (test x) (g x ∷ l) l) (filter-map g test blind xs)
    ∙ front (test x)
  where
    front : (b : Bool) → cond b (g x ∷ map g (filter test xs)) (map g (filter test xs)) ≡ map g (cond b (x ∷ filter test xs) (filter test xs))
    front true = refl
    front false = refl

length-map : {A B : Type 0} (g : A → B) (xs : List A) → length (map g xs) ≡ length xs
length-map g [] = refl
length-map g (x ∷ xs) = ap suc (length-map g xs)

-- an element of a list that is mapped
mapped-at : {A B : Type 0} (g : A → B) (xs : List A) (n : ℕ) (y : B) → slice_get (map g xs) n ≡ Some y → (x : A) × (slice_get xs n ≡ Some x) × (g x ≡ y)
mapped-at g [] n y at = absurd (let h : None ≡ Some y = at in cc)
mapped-at g (x ∷ xs) zero y at = (x, refl, let h : Some (g x) ≡ Some y = at in cc)
mapped-at g (x ∷ xs) (suc n) y at = mapped-at g xs n y at

module _ (d : ℕ) where
  fields-later : (f : Parts) (place : ℕ) (offers : List TimedParts) → length (of_field f (take place (frames_later d offers))) ≡ length (of_field f (take place offers))
  fields-later f place offers =
      ap (λ l. length (of_field f l)) (take-map (frame_later d) place offers)
      ∙ ap length (filter-map (frame_later d) (λ x. same_field f x.frame) (λ x. refl) (take place offers))
      ∙ length-map (frame_later d) (of_field f (take place offers))

  sends-later : (f : Parts) (course : List Transmission) → sends_of f (attempts_later d course) ≡ attempts_later d (sends_of f course)
  sends-later f course = filter-map (attempt_later d) _ (λ s. refl) course

  in_time-later : (offers : List TimedParts) → AreInTime offers → AreInTime (frames_later d offers)
  in_time-later offers rise m n x y less a b same =
      let one = mapped-at (frame_later d) offers m x a in
      let other = mapped-at (frame_later d) offers n y b in
      let fields : arbitration_field one.0.frame ≡ arbitration_field other.0.frame =
      ap (λ (z : TimedParts). arbitration_field z.frame) one.2 ∙ same ∙ sym (ap (λ (z : TimedParts). arbitration_field z.frame) other.2) in
      let t = rise m n one.0 other.0 less one.1 other.1 fields in
      omega (arith, t, ap (λ (z : TimedParts). z.time) one.2, ap (λ (z : TimedParts). z.time) other.2)

  -- ---- hits in a stretch of bit times

  times-later : (course : List Transmission) → hit_times (attempts_later d course) ≡ map (λ t. d + t) (hit_times course)
  times-later [] = refl
  times-later (s ∷ course) = by-hit s.time s.hit (hit_times course) (hit_times (attempts_later d course)) (times-later course)
    where
      by-hit : (time : ℕ) (hit : Option ℕ) (now after : List ℕ) → after ≡ map (λ t. d + t) now → with_hit (d + time) hit after ≡ map (λ t. d + t) (with_hit time hit now)
      by-hit time None now after same = same
      by-hit time (Some offset) now after same = ap (λ l. ((d + time) + offset) ∷ l) same ∙ ap (λ t. t ∷ map (λ k. d + k) now) (let e : (d + time) + offset ≡ d + (time + offset) = omega arith in e)

  -- a hit in the stretch is in one that begins this many bit times earlier
  sooner : (from long t : ℕ) → cond (nat_le from (d + t) && nat_lt (d + t) (from + long)) 1 0 ≤ cond (nat_le (from - d) t && nat_lt t ((from - d) + long)) 1 0
  sooner from long t = grind (arith, nat_tests)

  fewer : (from long : ℕ) (times : List ℕ) → within_stretch from long (map (λ t. d + t) times) ≤ within_stretch (from - d) long times
  fewer from long [] = omega arith
  fewer from long (t ∷ times) =
      omega (arith, stretch-cons from long (d + t) (map (λ k. d + k) times), stretch-cons (from - d) long t times, sooner from long t, fewer from long times)

  few-later : (most : ℕ → ℕ) (course : List Transmission) → AreHitAtMost most course → AreHitAtMost most (attempts_later d course)
  few-later most course few from long =
      let less = fewer from long (hit_times course) in
      let here = few (from - d) long in
      omega (arith, less, here, ap (within_stretch from long) (times-later course))

-- ---- the bound

sooner-attempt : (d : ℕ) (attempts : List Transmission) (n : ℕ) (s : Transmission) (long until : ℕ) → slice_get (attempts_later d attempts) n ≡ Some s → s.time + long ≤ until →
    (x : Transmission) × (slice_get attempts n ≡ Some x) × (d + (x.time + long) ≤ until)
sooner-attempt d attempts n s long until at soon =
    let there = mapped-at (attempt_later d) attempts n s at in
    (there.0, there.1, omega (arith, soon, ap (λ (x : Transmission). x.time) there.2))

pub bounds-shifted : (most : ℕ → ℕ) (messages : List Message) (m : Message) (bound : ℕ) → EndAlways most messages m bound →
    (d : ℕ) (releases : List Release) (offers : List TimedParts) (hits : List Hit) (course : List Transmission) →
    IsShiftedCourse most messages d releases offers hits course → EndWithinShifted d m bound releases offers course
bounds-shifted most messages m bound always d releases offers hits course is place r offer at offered of =
    let made : IsCourse hits 0 0 (map offer_of releases) (attempts_later d course) =
    subst (λ l. IsCourse hits 0 0 l (attempts_later d course)) (sym is.same) (course-later d hits offers course is.is_course) in
    let rise : AreInTime (map offer_of releases) = subst AreInTime (sym is.same) (in_time-later d offers is.in_time) in
    let ends : EndWithin m bound releases (attempts_later d course) = always releases hits (attempts_later d course) made is.frames rise is.keep (few-later d most course is.few) in
    let there = ends place r at of in
    let one : Some (offer_of r) ≡ Some (frame_later d offer) =
    sym (slice_get-map offer_of releases place ∙ ap (option_map offer_of) at) ∙ ap (λ l. slice_get l place) is.same ∙ slice_get-map (frame_later d) offers place ∙ ap (option_map (frame_later d)) offered in
    let same : offer_of r ≡ frame_later d offer = cc in
    let frame : r.frame ≡ offer.frame = ap (λ (x : TimedParts). x.frame) same in
    let before : ℕ = length (of_field offer.frame (take place offers)) in
    let as_many : length (of_field offer.frame (take place (map offer_of releases))) ≡ before =
    ap (λ l. length (of_field offer.frame (take place l))) is.same ∙ fields-later d offer.frame place offers in
    let sends : slice_get (sends_of offer.frame (attempts_later d course)) (length (of_field offer.frame (take place (map offer_of releases)))) ≡ Some there.0 =
    subst (λ f. slice_get (sends_of f (attempts_later d course)) (length (of_field f (take place (map offer_of releases)))) ≡ Some there.0) frame there.1.is_attempt in
    let sent : slice_get (attempts_later d (sends_of offer.frame course)) before ≡ Some there.0 =
    subst (λ l. slice_get l before ≡ Some there.0) (sends-later d offer.frame course) (subst (λ n. slice_get (sends_of offer.frame (attempts_later d course)) n ≡ Some there.0) as_many sends) in
    let long : length (wire offer.frame) ≡ length (wire r.frame) = ap (λ f. length (wire f)) (sym frame) in
    let soon = there.2 in
    let s = sooner-attempt d (sends_of offer.frame course) before there.0 (length (wire offer.frame)) (r.released + bound) sent (omega (arith, long, soon)) in
    (s.0, record { is_offer = offered; is_attempt = s.1 }, s.2)
