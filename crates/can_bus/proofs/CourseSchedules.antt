-- The schedule: there is one, and what holds of its starts, which are the attempts of a course without hits.
use Rattle.std.specs.Prelude.{max, option_map, slice_get, slice_index_or}
use Rattle.std.specs.List.Sorted.{IsPermutation}
use Rattle.std.proofs.Common.{◌≡◌, ℕ, zero, suc, ◌+◌, ◌-◌, ◌<◌, ◌≤◌, Bool, true, false, Option, Some, None, List, [], ◌∷◌, length, replicate, take, refl, sym, ap, subst, ◌∙◌, arith, inl, inr}
use Rattle.std.proofs.lemmas.Bool.{cases_lt}
use Rattle.std.proofs.lemmas.List.{get_or-append_right}
use Rattle.std.proofs.lemmas.Option.{slice_get-get_or, slice_get-map}
use Rattle.can_frame.specs.declared.level.Level.TheVariants.{Recessive}
use Rattle.can_frame.specs.Arbitration.{arbitration_field}
use Rattle.can_frame.specs.Parts.{Parts}
use Rattle.can_wire.specs.Wire.{wire}
use Rattle.can_mac.specs.Frames.{with_intermission}
use Rattle.can_node.specs.Ports.{waiting}
use Rattle.can_bus.specs.Course.{AllEnded, FallsInWindow, HitInWindows, IsCourse, IsMade, Transmission, attempt_of, course_at, course_from, course_of, course_tally, frames_sent, hits_made, lasting}
use Rattle.can_bus.specs.OpenBus.{AreOver}
use Rattle.can_bus.specs.Quiet.{AreDifferent, holds, busy_time}
use Rattle.can_bus.specs.Attempts.{IsLow, Tally, tallied}
use Rattle.can_bus.specs.Schedule.{IsScheduleOf, StartsAt, schedule, starts_of, track_at, unhit}
use Rattle.can_bus.specs.Timed.{Lists, TimedParts, earliest, frames_of, offered_by, without_offer}
use Rattle.can_bus.proofs.CourseLaws.{course-only, course-there}
use Rattle.can_bus.proofs.CourseTracks.{course-frames, course-rise, line-wire, made-offered, track-before, track-behind, track-on}
use Rattle.can_bus.proofs.LeftOffers.{differ-from, one-of-field}
use Rattle.can_bus.proofs.Members.{stands-cases, stands-here, stands-later, stands-none}

abbrev pub one_unhit : TimedParts → Transmission
one_unhit s = record { time = s.time; frame = s.frame; hit = None }

-- ---- there is one

starts-unhit : (starts : List TimedParts) → starts_of (unhit starts) ≡ starts
starts-unhit [] = refl
starts-unhit (s ∷ starts) = ap (λ l. s ∷ l) (starts-unhit starts)

-- without hits no attempt of the computed course is hit
one-computed : (behind : Parts → List Transmission) (time : ℕ) → ((f : Parts) → unhit (starts_of (behind f)) ≡ behind f) → (w : Option Parts) →
    unhit (starts_of (attempt_of behind time None w)) ≡ attempt_of behind time None w
one-computed behind time same None = refl
one-computed behind time same (Some f) = ap (λ l. let s : Transmission = record { time = time; frame = f; hit = None } in s ∷ l) (same f)

computed : (count number free : ℕ) (left : List TimedParts) → unhit (starts_of (course_from count [] number free left)) ≡ course_from count [] number free left
computed zero number free left = refl
computed (suc count) number free [] = refl
computed (suc count) number free (x ∷ others) =
    let left : List TimedParts = x ∷ others in
    let time : ℕ = max free (earliest x others) in
    one-computed (λ f. course_from count [] (number + 1) (time + busy_time f) (without_offer f left)) time
    (λ f. computed count (number + 1) (time + busy_time f) (without_offer f left)) (waiting (offered_by time left))

pub unhit-made : (starts : List TimedParts) (s : TimedParts) → Lists starts s → IsMade (unhit starts) (one_unhit s)
unhit-made [] s there = absurd (stands-none s there)
unhit-made (x ∷ starts) s there = elim (stands-cases x starts s there) [ inl e ↦ inl (ap one_unhit e) | inr later ↦ inr (unhit-made starts s later) ]

pub made-unhit : (starts : List TimedParts) (z : Transmission) → IsMade (unhit starts) z → (s : TimedParts) × Lists starts s × (one_unhit s ≡ z)
made-unhit [] z made = absurd made
made-unhit (x ∷ starts) z (inl here) = (x, stands-here x starts, here)
made-unhit (x ∷ starts) z (inr later) = let there = made-unhit starts z later in (there.0, stands-later x starts there.0 there.1, there.2)

module _ (offers : List TimedParts) where
  pub course-computed : unhit (schedule offers) ≡ course_of [] offers
  unfolding course_of
  course-computed = computed (length offers + 0) 0 0 offers

  pub no-other-schedule : (starts : List TimedParts) → IsScheduleOf offers starts → starts ≡ schedule offers
  no-other-schedule starts is = sym (starts-unhit starts) ∙ ap starts_of (course-only [] offers (unhit starts) is.scheduled).0

  pub one-schedule : AreDifferent (frames_of offers) → IsScheduleOf offers (schedule offers)
  one-schedule different =
      let windows : HitInWindows (course_of [] offers) = λ s made. (
      let there = made-unhit (schedule offers) s (subst (λ l. IsMade l s) (sym course-computed) made) in
      subst (λ (z : Transmission). FallsInWindow z.frame z.hit) there.2 tt) in
      record { different = different; scheduled = subst (IsCourse [] 0 0 offers) (sym course-computed) (course-there [] offers windows) }

-- ---- its starts

pub unhit-frames : (starts : List TimedParts) → frames_sent (unhit starts) ≡ frames_of starts
unhit-frames [] = refl
unhit-frames (s ∷ starts) = ap (λ fs. s.frame ∷ fs) (unhit-frames starts)

module _ (offers starts : List TimedParts) (is : IsScheduleOf offers starts) where
  pub schedule-frames : IsPermutation (frames_of offers) (frames_of starts)
  schedule-frames = subst (IsPermutation (frames_of offers)) (unhit-frames starts) (course-frames is.scheduled (differ-from offers is.different))

  -- each is offered by then
  pub starts-offered : (s : TimedParts) → Lists starts s → (x : TimedParts) × Lists offers x × (x.time ≤ s.time) × (x.frame ≡ s.frame)
  starts-offered s there = made-offered is.scheduled (one_unhit s) (unhit-made starts s there)

  pub starts-late : (offer start : TimedParts) → StartsAt offers starts offer start → offer.time ≤ start.time
  starts-late offer start at =
      let back = starts-offered start at.is_start in
      let one : offer ≡ back.0 = one-of-field offers (differ-from offers is.different) offer back.0 at.is_offer back.1 (ap arbitration_field (sym at.same ∙ sym back.3)) in
      omega (arith, ap (λ (x : TimedParts). x.time) one, back.2)

  pub starts-rise : (m n : ℕ) (s t : TimedParts) → m < n → slice_get starts m ≡ Some s → slice_get starts n ≡ Some t → s.time + busy_time s.frame ≤ t.time
  starts-rise m n s t less a b =
      course-rise is.scheduled m n (one_unhit s) (one_unhit t) less (slice_get-map one_unhit starts m ∙ ap (option_map one_unhit) a) (slice_get-map one_unhit starts n ∙ ap (option_map one_unhit) b)

  -- ---- its track

  pub track-wires : (s : TimedParts) → Lists starts s → (k : ℕ) → k < length (wire s.frame) → track_at starts (s.time + k) ≡ slice_index_or (wire s.frame) k Recessive
  track-wires s there k within = line-wire is.scheduled (one_unhit s) (unhit-made starts s there) refl k (slice_index_or (wire s.frame) k Recessive) (slice_get-get_or (wire s.frame) k Recessive within)

-- if no wire is on the bus it is recessive
level-past : (f : Parts) (k : ℕ) → length (wire f) ≤ k → slice_index_or (with_intermission f) k Recessive ≡ Recessive
level-past f k past = get_or-append_right (wire f) (replicate 3 Recessive) (length (wire f)) k Recessive refl past ∙ resting 3 (k - length (wire f))
  where
    resting : (m t : ℕ) → slice_index_or (replicate m Recessive) t Recessive ≡ Recessive
    resting zero t = refl
    resting (suc m) zero = refl
    resting (suc m) (suc t) = resting m t

pub track-rests : (starts : List TimedParts) (t : ℕ) → ((s : TimedParts) → Lists starts s → s.time ≤ t → s.time + length (wire s.frame) ≤ t) → track_at starts t ≡ Recessive
unfolding course_at
track-rests [] t past = refl
track-rests (start ∷ starts) t past =
    let behind = track-rests starts t (λ s there. past s (stands-later start starts s there)) in
    elim (cases_lt t start.time) [
      | inl early ↦ track-before (one_unhit start) (unhit starts) t early ∙ behind
      | inr begun ↦ elim (cases_lt t (start.time + length (with_intermission start.frame))) [
        | inl within ↦ track-on (one_unhit start) (unhit starts) t begun within
            ∙ level-past start.frame (t - start.time) (omega (arith, past start (stands-here start starts) begun))
        | inr over ↦ track-behind (one_unhit start) (unhit starts) t over ∙ behind
      ]
    ]

-- ---- its end, and its tally

pub unhit-none : (starts : List TimedParts) → hits_made (unhit starts) ≡ 0
unhit-none [] = refl
unhit-none (s ∷ starts) = unhit-none starts

pub unhit-ended : (starts : List TimedParts) (t : ℕ) → AreOver starts t → AllEnded (unhit starts) t
unhit-ended starts t past z made =
    let there = made-unhit starts z made in
    subst (λ (y : Transmission). y.time + lasting y.frame y.hit ≤ t) there.2 (past there.0 there.1)

-- the tally never rises
tallied-low : (own : Bool) (f : Parts) (t : Tally) → IsLow t → IsLow (tallied own f None t)
tallied-low true f t low = record { tec = omega (arith, low.tec); rec = low.rec }
tallied-low false f t low = record { tec = low.tec; rec = omega (arith, low.rec) }

pub unhit-low : (queue : List Parts) (starts : List TimedParts) (number : ℕ) (t : Tally) → IsLow t → IsLow (course_tally queue (take number (unhit starts)) t)
unhit-low queue [] zero t low = low
unhit-low queue [] (suc number) t low = low
unhit-low queue (s ∷ starts) zero t low = low
unhit-low queue (s ∷ starts) (suc number) t low = unhit-low queue starts number (tallied (holds queue s.frame) s.frame None t) (tallied-low (holds queue s.frame) s.frame t low)
