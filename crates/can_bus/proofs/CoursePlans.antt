-- If all frames wait at the start of a call, its attempts are a course: each sends the next frame of an ascending list when the one
-- before has ended.
use Rattle.std.specs.Prelude.{slice_index_or}
use Rattle.std.proofs.Common.{◌≡◌, ℕ, suc, ◌+◌, ◌-◌, ◌≤◌, Some, None, List, [], ◌∷◌, ◌++◌, length, refl, sym, ap, subst, ◌∙◌, arith, inl, inr}
use Rattle.std.proofs.lemmas.Bool.{cases_lt}
use Rattle.std.proofs.lemmas.List.Sorted.{IsPermutation-sym}
use Rattle.std.proofs.lemmas.List.{get_or_append_left, get_or-append_right}
use Rattle.can_frame.specs.declared.level.Level.{Level}
use Rattle.can_frame.specs.declared.level.Level.TheVariants.{Recessive}
use Rattle.can_frame.specs.Parts.{Parts}
use Rattle.can_frame.specs.Arbitration.{arbitration_field}
use Rattle.can_frame.proofs.BeforeLemmas.{Before-differs}
use Rattle.can_node.proofs.WaitingLaws.{waiting-IsWaiting}
use Rattle.can_terms.specs.declared.hit.Hit.{Hit}
use Rattle.can_bus.specs.Course.{IsCourse, IsNext, Transmission, attempted, HitInWindows, course_at, frames_sent, keeping, over}
use Rattle.can_bus.specs.Quiet.{AreDifferent, IsAscending, IsRising}
use Rattle.can_bus.specs.Repair.{course_levels, repaired_course}
use Rattle.can_bus.specs.RepairedLine.{attempt_levels}
use Rattle.can_bus.specs.Timed.{AreAtOnce, TimedParts, Lists, frames_of, offered_by, without_offer}
use Rattle.can_bus.proofs.Fields.{without-cases, without-differ, without-listed, without-other}
use Rattle.can_bus.proofs.Ascending.{Goes, rising_tail}
use Rattle.can_bus.proofs.Contests.{Has, own-waits}
use Rattle.can_bus.proofs.CourseTracks.{length-attempt, track-behind, track-on}
use Rattle.can_bus.proofs.Members.{map-stands, stands-none, stands-here, stands-later, stands-cases, stands-map, stands-permuted}
use Rattle.can_bus.proofs.LeftOffers.{AllDiffer, differ-from, offered-stands, stands-offered}
use Rattle.can_bus.proofs.RepairPlans.{Plan, done, plan, tried}

-- ---- they are a course

-- offers at time 0 of these frames, no two of which have one arbitration field
pub record AreLeft (frames : List Parts) (left : List TimedParts) : Type 0 where
  pub apart : AllDiffer left
  pub at_once : (x : TimedParts) → Lists left x → x.time ≡ 0
  pub to : (x : TimedParts) → Lists left x → Has x.frame frames
  pub from : (g : Parts) → Has g frames → (x : TimedParts) × Lists left x × (x.frame ≡ g)

pub left-ascending : (offers : List TimedParts) (frames : List Parts) → AreDifferent (frames_of offers) → AreAtOnce offers → IsAscending (frames_of offers) frames → AreLeft frames offers
left-ascending offers frames different at_once is = record {
  apart = differ-from offers different;
  at_once = at_once;
  to = λ x there. stands-permuted (frames_of offers) frames x.frame is.all (stands-map (λ (y : TimedParts). y.frame) offers x there);
  from = λ g h. map-stands (λ (y : TimedParts). y.frame) offers g (stands-permuted frames (frames_of offers) g (IsPermutation-sym (frames_of offers) frames is.all) h);
}

none-left : (left : List TimedParts) → AreLeft [] left → left ≡ []
none-left [] are = refl
none-left (x ∷ left) are = absurd (stands-none x.frame (are.to x (stands-here x left)))

rising-goes : (f : Parts) (frames : List Parts) → IsRising (f ∷ frames) → (x : Parts) → Has x frames → Goes f x
rising-goes f frames rising x h = rising 0 (suc h.0) f x (omega arith) refl h.1

module _ (f : Parts) (frames : List Parts) (left : List TimedParts) (rising : IsRising (f ∷ frames)) (are : AreLeft (f ∷ frames) left) where
  first-next : (time : ℕ) → IsNext time left time f
  first-next time =
      let own = are.from f (stands-here f frames) in
      let at = stands-offered time left own.0 own.1 (omega (arith, are.at_once own.0 own.1)) in
      let has : Has f (offered_by time left) = subst (λ g. Has g (offered_by time left)) own.2 at in
      record {
        is_free = omega arith;
        soon = λ x there. omega arith;
        waits = waiting-IsWaiting (offered_by time left) f (own-waits f (offered_by time left) has (λ g h. (
            let there = offered-stands time left g h in
            elim (stands-cases f frames there.0.frame (are.to there.0 there.1)) [
              | inl same ↦ inl (sym there.3 ∙ sym same)
              | inr later ↦ inr (subst (Goes f) there.3 (rising-goes f frames rising there.0.frame later))
            ])));
      }

  others-left : AreLeft frames (without_offer f left)
  others-left =
      record {
        apart = without-differ f left are.apart;
        at_once = λ x there. are.at_once x (without-listed f left x there);
        to = λ x there. elim (stands-cases f frames x.frame (are.to x (without-listed f left x there))) [
          | inl same ↦ absurd (without-other f left are.apart x there (ap arbitration_field same))
          | inr later ↦ later
        ];
        from = λ g h. (
            let there = are.from g (stands-later f frames g h) in
            elim (without-cases f left there.0 there.1) [
              | inl same ↦ absurd (Before-differs (arbitration_field f) (arbitration_field g) (rising-goes f frames rising g h) (same ∙ ap arbitration_field there.2))
              | inr kept ↦ (there.0, kept, there.2)
            ]);
      }

pub plan-course : {hits : List Hit} {number time : ℕ} {frames : List Parts} {course : List Transmission} → Plan hits number time frames course → (left : List TimedParts) →
    IsRising frames → AreLeft frames left → IsCourse hits number time left course
plan-course {hits} (done number time) left rising are = subst (λ l. IsCourse hits number time l []) (sym (none-left left are)) (over number time)
plan-course (tried number time f None frames course told window rest) left rising are =
    attempted number time time f None left course (first-next f frames left rising are time) told window
    (plan-course rest (without_offer f left) (rising_tail f frames rising) (others-left f frames left rising are))
plan-course (tried number time f (Some o) frames course told window rest) left rising are =
    attempted number time time f (Some o) left course (first-next f frames left rising are time) told window (plan-course rest left rising are)

-- if all frames are offered at once
pub course-at_once : (hits : List Hit) (offers : List TimedParts) (frames : List Parts) → AreDifferent (frames_of offers) → AreAtOnce offers → IsAscending (frames_of offers) frames →
    HitInWindows (repaired_course frames hits) → IsCourse hits 0 0 offers (repaired_course frames hits)
course-at_once hits offers frames different at_once is windows = plan-course (plan hits frames windows) offers is.rising (left-ascending offers frames different at_once is)

-- ---- what follows from it

pub plan-frames : {hits : List Hit} {number time : ℕ} {frames : List Parts} {course : List Transmission} → Plan hits number time frames course → frames_sent course ≡ frames
plan-frames (done number time) = refl
plan-frames (tried number time f None frames course told window rest) = ap (λ fs. f ∷ fs) (plan-frames rest)
plan-frames (tried number time f (Some o) frames course told window rest) = plan-frames rest

-- its track
one-more : (s : Transmission) (course : List Transmission) (behind : List Level) (t : ℕ) →
    (length (attempt_levels s.frame s.hit) ≤ t → course_at course (s.time + t) ≡ slice_index_or behind (t - length (attempt_levels s.frame s.hit)) Recessive) →
    course_at (s ∷ course) (s.time + t) ≡ slice_index_or (attempt_levels s.frame s.hit ++ behind) t Recessive
one-more s course behind t next =
    let levels : List Level = attempt_levels s.frame s.hit in
    elim (cases_lt t (length levels)) [
      | inl within ↦
          track-on s course (s.time + t) (omega arith) (omega (arith, within))
          ∙ ap (λ k. slice_index_or levels k Recessive) (let e : (s.time + t) - s.time ≡ t = omega arith in e)
          ∙ sym (get_or_append_left levels behind Recessive t within)
      | inr past ↦
          track-behind s course (s.time + t) (omega (arith, past)) ∙ next past
          ∙ sym (get_or-append_right levels behind (length levels) t Recessive refl past)
    ]

pub plan-track : {hits : List Hit} {number time : ℕ} {frames : List Parts} {course : List Transmission} → Plan hits number time frames course → (t : ℕ) →
    course_at course (time + t) ≡ slice_index_or (course_levels course) t Recessive
unfolding course_at
plan-track (done number time) t = refl
plan-track (tried number time f hit frames course told window rest) t =
    let size = length-attempt f hit window in
    one-more (record { time = time; frame = f; hit = hit }) course (course_levels course) t (λ past.
    ap (course_at course) (let e : time + t ≡ (time + keeping f hit) + (t - length (attempt_levels f hit)) = omega (arith, past, size) in e)
    ∙ plan-track rest (t - length (attempt_levels f hit)))
