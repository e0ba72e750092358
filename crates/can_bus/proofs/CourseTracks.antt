-- The track of a course: the levels of each attempt from its start on, and recessive levels elsewhere; and when its attempts start.
use Rattle.std.specs.Prelude.{slice_get, slice_index_or, nat_lt, nat_le, ◌&&◌}
use Rattle.std.specs.List.Sorted.{IsPermutation}
use Rattle.std.proofs.Common.{◌≡◌, ℕ, zero, suc, ◌+◌, ◌-◌, ◌<◌, ◌≤◌, Bool, None, Some, List, [], ◌∷◌, length, take, replicate, refl, sym, ◌∙◌, ap, subst, inl, inr, arith, Option}
use Rattle.std.proofs.lemmas.Bool.{cond-true, cond-false, le-leb, lt-leb, lt-ltb, le-ltb}
use Rattle.std.proofs.lemmas.List.{get_or_append_left, length-append, length-map, length-replicate, length-take-le}
use Rattle.std.proofs.lemmas.List.Sorted.{IsPermutation-cons, IsPermutation-refl, IsPermutation-trans}
use Rattle.std.proofs.lemmas.Option.{get_or_from_slice_get, slice_get_within}
use Rattle.can_frame.specs.declared.level.Level.{Level}
use Rattle.can_frame.specs.declared.level.Level.TheVariants.{Dominant, Recessive}
use Rattle.can_frame.specs.Levels.{opposite}
use Rattle.can_frame.specs.Parts.{Parts, IsFrame}
use Rattle.can_wire.specs.Wire.{wire}
use Rattle.can_wire.specs.Layout.{level_at}
use Rattle.can_mac.specs.Frames.{with_intermission}
use Rattle.can_mac.proofs.FrameParts.{length-wire}
use Rattle.can_mac.proofs.HitLevels.{IsHit}
use Rattle.can_terms.specs.declared.hit.Hit.{Hit}
use Rattle.can_bus.specs.Course.{FallsInWindow, Transmission, IsCourse, over, attempted, IsMade, course_at, frames_sent, hit_time, keeping, left_by}
use Rattle.can_bus.specs.RepairedLine.{attempt_levels, lateness, struck}
use Rattle.can_bus.specs.Timed.{Lists, TimedParts, frames_of, without_offer}
use Rattle.can_bus.proofs.Fields.{without-differ, without-listed, without-permuted}
use Rattle.can_bus.proofs.LeftOffers.{AllDiffer, offered-stands}
use Rattle.can_bus.proofs.QuietLogs.{length-busy}
use Rattle.can_bus.proofs.Repairs.{broken_levels}
use Rattle.can_bus.proofs.RepairedLevels.{broken-attempt}

-- ---- one attempt in front

module _ (s : Transmission) (course : List Transmission) (t : ℕ) where
  abbrev pub levels_of : List Level
  levels_of = attempt_levels s.frame s.hit

  abbrev on_wire : Bool
  on_wire = nat_le s.time t && nat_lt t (s.time + length levels_of)

  abbrev level : Level
  level = slice_index_or levels_of (t - s.time) Recessive

  pub track-on : s.time ≤ t → t < s.time + length levels_of → course_at (s ∷ course) t ≡ level
  unfolding course_at
  track-on begun lasts =
      cond-true on_wire level (course_at course t) (ap (λ b. b && nat_lt t (s.time + length levels_of)) (le-leb s.time t begun) ∙ lt-ltb t (s.time + length levels_of) lasts)

  -- before it and after it the others count
  pub track-before : t < s.time → course_at (s ∷ course) t ≡ course_at course t
  unfolding course_at
  track-before early = cond-false on_wire level (course_at course t) (ap (λ b. b && nat_lt t (s.time + length levels_of)) (lt-leb s.time t early))

  pub track-behind : s.time + length levels_of ≤ t → course_at (s ∷ course) t ≡ course_at course t
  unfolding course_at
  track-behind past =
      cond-false on_wire level (course_at course t)
      (ap (λ b. b && nat_lt t (s.time + length levels_of)) (le-leb s.time t (omega arith)) ∙ le-ltb t (s.time + length levels_of) past)

-- before all of them the track is recessive
pub track-rests : (course : List Transmission) (t : ℕ) → ((s : Transmission) → IsMade course s → t < s.time) → course_at course t ≡ Recessive
unfolding course_at
track-rests [] t early = refl
track-rests (s ∷ course) t early = track-before s course t (early s (inl refl)) ∙ track-rests course t (λ x made. early x (inr made))

-- no attempt starts before the bus is free
pub course-free : {hits : List Hit} {number free : ℕ} {left : List TimedParts} {course : List Transmission} → IsCourse hits number free left course → (s : Transmission) → IsMade course s → free ≤ s.time
course-free (over number free) s made = absurd made
course-free (attempted number free time f hit left course is told window rest) s (inl e) = let same : time ≡ s.time = ap (λ (x : Transmission). x.time) e in omega (arith, is.is_free, same)
course-free (attempted number free time f hit left course is told window rest) s (inr made) = omega (arith, is.is_free, course-free rest s made)

-- how long an attempt is that is hit
module _ (f : Parts) (offset : ℕ) where
  pub length-struck : offset ≤ length (wire f) → length (attempt_levels f (Some offset)) ≡ hit_time f offset
  length-struck within =
      let late = lateness f offset in
      let flags : List Level = replicate (6 + late) Dominant in
      let behind : List Level = opposite (level_at (wire f) offset) ∷ flags in
      omega (arith, length-append (struck f offset (6 + late)) (replicate 11 Recessive), length-append (take offset (wire f)) behind, length-replicate (6 + late) Dominant, length-replicate 11 Recessive, length-take-le offset (wire f) within)

  pub length-broken : (is : IsFrame f) (hit : IsHit f offset) → length (broken_levels f is offset hit) ≡ hit_time f offset
  length-broken is hit =
      sym (length-map (broken_levels f is offset hit) (λ l. l.1)) ∙ ap length (broken-attempt f is offset hit) ∙ length-struck (omega (arith, hit.within, length-wire f))

-- an attempt has a level for each bit time for which it keeps the bus
pub length-attempt : (f : Parts) (hit : Option ℕ) → FallsInWindow f hit → length (attempt_levels f hit) ≡ keeping f hit
length-attempt f None window = length-busy f
length-attempt f (Some offset) window = length-struck f offset (omega (arith, window.before_last))

-- ---- what holds of each attempt

-- what is left after it was left before
pub left-listed : (f : Parts) (hit : Option ℕ) (left : List TimedParts) (x : TimedParts) → Lists (left_by f hit left) x → Lists left x
left-listed f None left x there = without-listed f left x there
left-listed f (Some offset) left x there = there

-- the line has the whole wire of one that isn't hit
module _ (time : ℕ) (f : Parts) (course : List Transmission) (k : ℕ) (l : Level) where
  abbrev first : Transmission
  first = record { time = time; frame = f; hit = None }

  wire-here : slice_get (wire f) k ≡ Some l → course_at (first ∷ course) (time + k) ≡ l
  wire-here at =
      let within : k < length (wire f) = slice_get_within (wire f) k l at in
      let place : (time + k) - time ≡ k = omega arith in
      track-on first course (time + k) (omega arith) (omega (arith, within, length-busy f))
      ∙ ap (λ n. slice_index_or (with_intermission f) n Recessive) place
      ∙ get_or_append_left (wire f) (replicate 3 Recessive) Recessive k within
      ∙ get_or_from_slice_get (wire f) k l Recessive at

pub line-wire : {hits : List Hit} {number free : ℕ} {left : List TimedParts} {course : List Transmission} → IsCourse hits number free left course → (s : Transmission) → IsMade course s → s.hit ≡ None →
    (k : ℕ) (l : Level) → slice_get (wire s.frame) k ≡ Some l → course_at course (s.time + k) ≡ l
line-wire (over number free) s made unhit k l at = absurd made
line-wire (attempted number free time f None left course is told window more) s (inl here) unhit k l at =
    subst (λ (z : Transmission). slice_get (wire z.frame) k ≡ Some l → course_at (record { time = time; frame = f; hit = None } ∷ course) (z.time + k) ≡ l) here (wire-here time f course k l) at
line-wire (attempted number free time f (Some offset) left course is told window more) s (inl here) unhit k l at =
    absurd (let h : Some offset ≡ None = ap (λ (z : Transmission). z.hit) here ∙ unhit in cc)
line-wire (attempted number free time f hit left course is told window more) s (inr made) unhit k l at =
    track-behind (record { time = time; frame = f; hit = hit }) course (s.time + k) (omega (arith, course-free more s made, length-attempt f hit window)) ∙ line-wire more s made unhit k l at

-- its frame was offered by then
pub made-offered : {hits : List Hit} {number free : ℕ} {left : List TimedParts} {course : List Transmission} → IsCourse hits number free left course → (s : Transmission) → IsMade course s →
    (x : TimedParts) × Lists left x × (x.time ≤ s.time) × (x.frame ≡ s.frame)
made-offered (over number free) s made = absurd made
made-offered (attempted number free time f hit left course is told window rest) s (inl here) =
    subst (λ (z : Transmission). (x : TimedParts) × Lists left x × (x.time ≤ z.time) × (x.frame ≡ z.frame)) here (offered-stands time left f (is.waits.place, is.waits.stands))
made-offered (attempted number free time f hit left course is told window rest) s (inr made) =
    let there = made-offered rest s made in (there.0, left-listed f hit left there.0 there.1, there.2, there.3)

pub made-at : (course : List Transmission) (n : ℕ) (s : Transmission) → slice_get course n ≡ Some s → IsMade course s
made-at [] n s at = absurd (let h : None ≡ Some s = at in cc)
made-at (x ∷ course) zero s at = inl (let h : Some x ≡ Some s = at in cc)
made-at (x ∷ course) (suc n) s at = inr (made-at course n s at)

-- each after the one before, and what that keeps the bus
pub course-rise : {hits : List Hit} {number free : ℕ} {left : List TimedParts} {course : List Transmission} → IsCourse hits number free left course → (m n : ℕ) (s t : Transmission) → m < n →
    slice_get course m ≡ Some s → slice_get course n ≡ Some t → s.time + keeping s.frame s.hit ≤ t.time
course-rise (over number free) m n s t less a b = absurd (let h : None ≡ Some s = a in cc)
course-rise (attempted number free time f hit left course is told window rest) m zero s t less a b = absurd (omega (arith, less))
course-rise (attempted number free time f hit left course is told window rest) zero (suc n) s t less a b =
    let first : Transmission = record { time = time; frame = f; hit = hit } in
    subst (λ (z : Transmission). z.time + keeping z.frame z.hit ≤ t.time) (let e : Some first ≡ Some s = a in let same : first ≡ s = cc in same) (course-free rest t (made-at course n t b))
course-rise (attempted number free time f hit left course is told window rest) (suc m) (suc n) s t less a b = course-rise rest m n s t (omega (arith, less)) a b

-- if no two offers have one field, each frame that is offered is sent
pub course-frames : {hits : List Hit} {number free : ℕ} {left : List TimedParts} {course : List Transmission} → IsCourse hits number free left course → AllDiffer left →
    IsPermutation (frames_of left) (frames_sent course)
course-frames (over number free) apart = IsPermutation-refl []
course-frames (attempted number free time f None left course is unhit window rest) apart =
    let there = offered-stands time left f (is.waits.place, is.waits.stands) in
    IsPermutation-trans (frames_of left) (f ∷ frames_of (without_offer f left)) (f ∷ frames_sent course) (without-permuted f left apart there.0 there.1 there.3)
    (IsPermutation-cons f (frames_of (without_offer f left)) (frames_sent course) (course-frames rest (without-differ f left apart)))
course-frames (attempted number free time f (Some offset) left course is struck window rest) apart = course-frames rest apart
