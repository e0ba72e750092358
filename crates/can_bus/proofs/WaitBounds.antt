-- Bounds on how long an offered frame waits for its start.
use Rattle.std.proofs.Common.{◌≡◌, ◌≢◌, ℕ, suc, ◌+◌, ◌*◌, ◌<◌, ◌≤◌, Bool, true, false, cond, Option, List, [], ◌∷◌, length, get_or, refl, sym, ◌∙◌, ap, subst, inl, inr, arith, ◌-◌, zero, Some, None, take}
use Rattle.std.specs.Prelude.{max, option_map, nat_le, nat_lt, filter, ◌&&◌, slice_get}
use Rattle.std.proofs.lemmas.Bool.{and_parts, cases_lt, cases_order, cond-false, cond_both, ltb-true}
use Rattle.std.proofs.lemmas.List.Sums.{sum_by-cons, sum_by-append, sum_by-le}
use Rattle.std.proofs.lemmas.Option.{slice_get-get_or}
use Rattle.std.proofs.lemmas.Option.{slice_get-map}
use Rattle.can_frame.specs.Parts.{Parts, IsFrame}
use Rattle.can_frame.specs.Arbitration.{arbitration_field, Before}
use Rattle.can_wire.proofs.WireLemmas.{length-wire-le}
use Rattle.can_node.specs.Ports.{goes_before, same_field}
use Rattle.can_terms.specs.declared.hit.Hit.{Hit}
use Rattle.can_node.proofs.WaitingLemmas.{Shares-same_field}
use Rattle.can_bus.specs.Quiet.{AreDifferent, busy_time, span}
use Rattle.can_bus.specs.Timed.{TimedParts, Lists, frames_of, without_offer}
use Rattle.can_bus.specs.Schedule.{IsScheduleOf, StartsAt, unhit, left_at, starts_between, FindsFree}
use Rattle.can_bus.specs.CourseWaiting.{ahead_of, busy_times, AreInTime, IsSentBy, attempts_between, going_before, hit_attempts, kept_times, left_behind, of_field, sends_of, sent_attempts}
use Rattle.can_bus.proofs.Members.{stands-none, stands-here, stands-later, stands-cases, filter-stands, stands-filter}
use Rattle.can_bus.proofs.LeftOffers.{AllDiffer, differ-from, one-of-field}
use Rattle.can_bus.specs.Course.{Transmission, IsCourse, over, attempted, IsMade, keeping, left_by}
use Rattle.can_bus.proofs.Ascending.{different_permuted}
use Rattle.can_bus.proofs.CourseDelays.{bound as course-bound, busy-weighed, exact as course-exact, few as course-few, meanwhile as course-meanwhile, weigh, weigh-first, length-weigh, some-first}
use Rattle.can_bus.proofs.CourseSchedules.{made-unhit, one_unhit, schedule-frames, starts-offered, unhit-made}
use Rattle.can_bus.proofs.CourseTracks.{course-free}
use Rattle.can_bus.proofs.CourseWaits.{between-before, between-late, between-more, between-none, sends-more, sends-other}
use Rattle.can_bus.proofs.Fields.{field-skip, field-without}
use Rattle.can_bus.proofs.OwnedFields.{field-cases}
use Rattle.can_bus.proofs.OwnOffers.{without-absent}
use Rattle.can_bus.proofs.QuietLogs.{other-test}

-- ---- a schedule is a course without hits

-- no other offer of its field comes before an offer
none-before : (offers : List TimedParts) (n : ℕ) (x : TimedParts) → AllDiffer offers → slice_get offers n ≡ Some x → of_field x.frame (take n offers) ≡ []
none-before [] n x apart at = absurd (let h : None ≡ Some x = at in cc)
none-before (y ∷ offers) zero x apart at = refl
none-before (y ∷ offers) (suc n) x apart at =
    field-skip x.frame y (take n offers) (other-test x.frame y.frame (λ e. apart.0 x (n, at) (sym e))) ∙ none-before offers n x apart.1 at

-- and no other start of its field is made
one-sent : (f : Parts) (starts : List TimedParts) (s : TimedParts) → AllDiffer starts → Lists starts s → arbitration_field f ≡ arbitration_field s.frame → slice_get (sends_of f (unhit starts)) 0 ≡ Some (one_unhit s)
one-sent f [] s apart there e = absurd (stands-none s there)
one-sent f (x ∷ starts) s apart there e = elim (stands-cases x starts s there) [
  | inl here ↦
      ap (λ l. slice_get l 0) (sends-more f x.time x.frame (unhit starts) (Shares-same_field f x.frame (e ∙ ap (λ (z : TimedParts). arbitration_field z.frame) (sym here)))) ∙ ap (λ z. Some (one_unhit z)) here
  | inr later ↦
      ap (λ l. slice_get l 0) (sends-other f x.time x.frame (unhit starts) (other-test f x.frame (λ k. apart.0 s later (sym k ∙ e)))) ∙ one-sent f starts s apart.1 later e
]

-- ---- what goes before a frame, weighed

module _ (weight : Parts → ℕ) (test : TimedParts → Bool) where
  without-less : (f : Parts) (offers : List TimedParts) → weigh weight (filter test (without_offer f offers)) ≤ weigh weight (filter test offers)
  without-less f offers = elim (field-cases f offers) [
    | inl none ↦ omega (arith, ap (λ l. weigh weight (filter test l)) (without-absent f offers none))
    | inr has ↦
        let own : Lists (of_field f offers) has.0 = stands-filter (λ z. same_field f z.frame) offers has.0 has.1 (Shares-same_field f has.0.frame has.2) in
        let first = some-first (of_field f offers) has.0 own in
        omega (arith, weigh-first weight test f offers first.0 first.1 first.2)
  ]

  by-less : (f : Parts) (hit : Option ℕ) (offers : List TimedParts) → weigh weight (filter test (left_by f hit offers)) ≤ weigh weight (filter test offers)
  by-less f None offers = without-less f offers
  by-less f (Some offset) offers = omega arith

  left-less : (course : List Transmission) (offers : List TimedParts) → weigh weight (filter test (left_behind offers course)) ≤ weigh weight (filter test offers)
  left-less [] offers = omega arith
  left-less (s ∷ course) offers = omega (arith, left-less course (left_by s.frame s.hit offers), by-less s.frame s.hit offers)

none-by : (f g : Parts) (hit : Option ℕ) (offers : List TimedParts) → of_field f offers ≡ [] → of_field f (left_by g hit offers) ≡ []
none-by f g None offers none = field-without f g offers ∙ ap (without_offer g) none
none-by f g (Some offset) offers none = none

none-left : (f : Parts) (course : List Transmission) (offers : List TimedParts) → of_field f offers ≡ [] → of_field f (left_behind offers course) ≡ []
none-left f [] offers none = none
none-left f (s ∷ course) offers none = none-left f course (left_by s.frame s.hit offers) (none-by f s.frame s.hit offers none)

-- if no two offers have one field, what goes before one is of those with higher priority
module _ (offers : List TimedParts) (course : List Transmission) (place t : ℕ) (offer : TimedParts) (different : AreDifferent (frames_of offers)) (at : slice_get offers place ≡ Some offer) where
  abbrev going : List TimedParts
  going = going_before offers course place offer t

  abbrev ahead : List TimedParts
  ahead = ahead_of offer.frame t offers

  going-less : (weight : Parts → ℕ) → weigh weight going ≤ weigh weight ahead
  going-less weight =
      let begun = attempts_between 0 offer.time course in
      let both = sum_by-append (λ (x : TimedParts). weight x.frame) (ahead_of offer.frame t (left_behind offers begun)) (of_field offer.frame (left_behind (take place offers) begun)) in
      let own = ap (weigh weight) (none-left offer.frame begun (take place offers) (none-before offers place offer (differ-from offers different) at)) in
      omega (arith, both, own, left-less weight (λ x. goes_before x.frame offer.frame && nat_lt x.time t) begun offers)

  pub going-few : (busy_times going ≤ busy_times ahead) × (length going ≤ length ahead)
  going-few = (omega (arith, going-less busy_time, busy-weighed going, busy-weighed ahead), omega (arith, going-less (λ f. 1), length-weigh going, length-weigh ahead))

-- the attempts between two times are the starts
between-unhit : (from until : ℕ) (starts : List TimedParts) → attempts_between from until (unhit starts) ≡ unhit (starts_between from until starts)
between-unhit from until [] = refl
between-unhit from until (s ∷ starts) = by_test (nat_le from s.time && nat_lt s.time until) s (attempts_between from until (unhit starts)) (starts_between from until starts) (between-unhit from until starts)
  where
    by_test : (b : Bool) (s : TimedParts) (some : List Transmission) (others : List TimedParts) → some ≡ unhit others → cond b (one_unhit s ∷ some) some ≡ unhit (cond b (s ∷ others) others)
    by_test true s some others same = ap (λ l. one_unhit s ∷ l) same
    by_test false s some others same = same

kept-starts : (starts : List TimedParts) → kept_times (unhit starts) ≡ busy_times starts
unfolding span
kept-starts [] = refl
kept-starts (s ∷ starts) =
    omega (arith, kept-starts starts, sum_by-cons (λ (z : Transmission). keeping z.frame z.hit) (one_unhit s) (unhit starts), sum_by-cons busy_time s.frame (frames_of starts))

pub kept-unhit : (from until : ℕ) (starts : List TimedParts) → kept_times (attempts_between from until (unhit starts)) ≡ busy_times (starts_between from until starts)
kept-unhit from until starts = ap kept_times (between-unhit from until starts) ∙ kept-starts (starts_between from until starts)

-- all of them are sent
length-sent : (starts : List TimedParts) → length (sent_attempts (unhit starts)) ≡ length starts
length-sent [] = refl
length-sent (s ∷ starts) = ap suc (length-sent starts)

none-hit : (starts : List TimedParts) → hit_attempts (unhit starts) ≡ []
none-hit [] = refl
none-hit (s ∷ starts) = none-hit starts

-- ---- how long a frame keeps the bus at most

module _ (most : ℕ) where
  -- each frame keeps it no longer than this, and one bit time
  abbrev pub AreShort : List TimedParts → Type 0
  AreShort timed = (x : TimedParts) → Lists timed x → busy_time x.frame ≤ suc most

  left-le : (t : ℕ) (starts : List TimedParts) → AreShort starts → left_at t starts ≤ most
  left-le t [] short = omega arith
  left-le t (start ∷ starts) short =
      let over = start.time + busy_time start.frame in
      cond_both {A = ℕ} (nat_lt start.time t && nat_lt t over) (over - t) (left_at t starts) (λ n. n ≤ most)
      (λ lasts.
      let begun = ltb-true start.time t (and_parts (nat_lt start.time t) (nat_lt t over) lasts).0 in
      omega (arith, begun, short start (stands-here start starts)))
      (λ over. left-le t starts (λ s there. short s (stands-later start starts s there)))

  busy-le : (timed : List TimedParts) → AreShort timed → busy_times timed ≤ length timed * suc most
  busy-le timed short = omega (arith, busy-weighed timed, sum_by-le (λ (x : TimedParts). busy_time x.frame) (suc most) timed (λ k d within. short (get_or timed k d) (k, slice_get-get_or timed k d within)))

longest-format : (extended : Bool) → cond extended 157 132 ≤ 157
longest-format true = omega arith
longest-format false = omega arith

longest-busy : (f : Parts) → IsFrame f → busy_time f ≤ 160
longest-busy f is = omega (arith, length-wire-le f is, longest-format f.id.extended)

longest-standard : (f : Parts) → IsFrame f × (f.id.extended ≡ false) → busy_time f ≤ 135
longest-standard f is = omega (arith, length-wire-le f is.0, cond-false {A = ℕ} f.id.extended 157 132 is.1)

-- ---- if nothing starts at a time

-- what starts between it and a start keeps the bus for less than the time between
kept-less : {hits : List Hit} {number free : ℕ} {left : List TimedParts} {course : List Transmission} → IsCourse hits number free left course → (from : ℕ) → ((z : Transmission) → IsMade course z → z.time ≢ from) →
    (s : Transmission) → IsMade course s → from < s.time → kept_times (attempts_between from s.time course) + max free (suc from) ≤ s.time
kept-less (over number free) from none s made less = absurd made
kept-less (attempted number free time f hit left course is told window rest) from none s made less =
    let a : Transmission = record { time = time; frame = f; hit = hit } in
    elim (cases_lt time s.time) [
      | inr late ↦
          let nothing : kept_times (attempts_between from s.time (a ∷ course)) ≡ 0 =
          ap kept_times (between-late from s.time a course late ∙ between-none from s.time course (λ z there. omega (arith, late, course-free rest z there))) in
          omega (arith, nothing, less, course-free (attempted number free time f hit left course is told window rest) s made)
      | inl early ↦ elim made [
        | inl here ↦ (let same : time ≡ s.time = ap (λ (z : Transmission). z.time) here in absurd (omega (arith, same, early)))
        | inr later ↦
            let behind = kept-less rest from (λ z there. none z (inr there)) s later less in
            elim (cases_order time from) [
              | inl same ↦ absurd (none a (inl refl) same)
              | inr (inl before) ↦ omega (arith, behind, is.is_free, ap kept_times (between-before from s.time a course before))
              | inr (inr begun) ↦
                  let one = ap kept_times (between-more from s.time a course (omega (arith, begun)) early) ∙ sum_by-cons (λ (z : Transmission). keeping z.frame z.hit) a (attempts_between from s.time course) in
                  omega (arith, behind, is.is_free, one, begun)
            ]
      ]
    ]

-- ---- the wait, from a schedule

module _ (offers starts : List TimedParts) (is : IsScheduleOf offers starts) (offer start : TimedParts) (at : StartsAt offers starts offer start) where
  apart : AllDiffer offers
  apart = differ-from offers is.different

  starts-apart : AllDiffer starts
  starts-apart = differ-from starts (different_permuted (frames_of offers) (frames_of starts) (schedule-frames offers starts is) is.different)

  course : IsCourse [] 0 0 offers (unhit starts)
  course = is.scheduled

  rise : AreInTime offers
  rise m n x y less a b same =
      absurd (is.different m n x.frame y.frame less (slice_get-map (λ (z : TimedParts). z.frame) offers m ∙ ap (option_map (λ (z : TimedParts). z.frame)) a)
      (slice_get-map (λ (z : TimedParts). z.frame) offers n ∙ ap (option_map (λ (z : TimedParts). z.frame)) b) same)

  by : IsSentBy offers (unhit starts) at.is_offer.0 offer (one_unhit start)
  by = record {
    is_offer = at.is_offer.1;
    is_attempt =
        ap (λ l. slice_get (sends_of offer.frame (unhit starts)) (length l)) (none-before offers at.is_offer.0 offer apart at.is_offer.1)
        ∙ one-sent offer.frame starts start starts-apart at.is_start (ap arbitration_field (sym at.same));
  }

  pub exact : start.time ≡ offer.time + left_at offer.time starts + busy_times (starts_between offer.time start.time starts)
  exact =
      let wait = course-exact [] offers (unhit starts) course rise at.is_offer.0 offer (one_unhit start) by in
      omega (arith, wait, kept-unhit offer.time start.time starts)

  pub meanwhile : (s : TimedParts) → Lists starts s → offer.time ≤ s.time → s.time < start.time → Before (arbitration_field s.frame) (arbitration_field offer.frame)
  meanwhile s there from until = elim (course-meanwhile [] offers (unhit starts) course rise at.is_offer.0 offer (one_unhit start) by (one_unhit s) (unhit-made starts s there) from until) [
    | inl goes ↦ goes
    | inr same ↦
        let one : s ≡ start = one-of-field starts starts-apart s start there at.is_start (same ∙ ap arbitration_field (sym at.same)) in
        let e : s.time ≡ start.time = ap (λ (z : TimedParts). z.time) one in
        absurd (omega (arith, e, until))
  ]

  fewer : (busy_times (going_before offers (unhit starts) at.is_offer.0 offer start.time) ≤ busy_times (ahead_of offer.frame start.time offers))
      × (length (going_before offers (unhit starts) at.is_offer.0 offer start.time) ≤ length (ahead_of offer.frame start.time offers))
  fewer = going-few offers (unhit starts) at.is_offer.0 start.time offer is.different at.is_offer.1

  same_between : attempts_between offer.time start.time (unhit starts) ≡ unhit (starts_between offer.time start.time starts)
  same_between = between-unhit offer.time start.time starts

  pub bound : start.time ≤ offer.time + left_at offer.time starts + busy_times (ahead_of offer.frame start.time offers)
  bound =
      let wait = course-bound [] offers (unhit starts) course rise at.is_offer.0 offer (one_unhit start) by in
      let none = ap (λ l. kept_times (hit_attempts l)) same_between ∙ ap kept_times (none-hit (starts_between offer.time start.time starts)) in
      omega (arith, wait, fewer.0, none)

  pub few : length (starts_between offer.time start.time starts) ≤ length (ahead_of offer.frame start.time offers)
  few =
      let less = course-few [] offers (unhit starts) course rise at.is_offer.0 offer (one_unhit start) by in
      let sent = ap (λ l. length (sent_attempts l)) same_between ∙ length-sent (starts_between offer.time start.time starts) in
      omega (arith, less, fewer.1, sent)

  short-starts : (most : ℕ) → AreShort most offers → AreShort most starts
  short-starts most short s there =
      let back = starts-offered offers starts is s there in
      subst (λ f. busy_time f ≤ suc most) back.3 (short back.0 back.1)

  wait-le : (most : ℕ) → AreShort most offers → start.time ≤ offer.time + most + length (starts_between offer.time start.time starts) * suc most
  wait-le most short =
      let wait = exact in
      let each : AreShort most starts = short-starts most short in
      let left = left-le most offer.time starts each in
      let frames = busy-le most (starts_between offer.time start.time starts)
      (λ s there. each s (filter-stands (λ (z : TimedParts). nat_le offer.time z.time && nat_lt z.time start.time) starts s there).0) in
      omega arith

  pub longest : ((x : TimedParts) → Lists offers x → IsFrame x.frame) → start.time ≤ offer.time + 159 + 160 * length (starts_between offer.time start.time starts)
  longest frames = let most = wait-le 159 (λ x s. longest-busy x.frame (frames x s)) in omega arith

  pub longest_standard : ((x : TimedParts) → Lists offers x → IsFrame x.frame × (x.frame.id.extended ≡ false)) →
      start.time ≤ offer.time + 134 + 135 * length (starts_between offer.time start.time starts)
  longest_standard frames = let most = wait-le 134 (λ x s. longest-standard x.frame (frames x s)) in omega arith

  -- if the bus is free none of those that start in between starts right then
  pub at_once : FindsFree offers starts offer → start.time ≡ offer.time
  at_once found = elim (cases_lt offer.time start.time) [
    | inr early ↦ (let wait = exact in omega arith)
    | inl late ↦
        let none : (z : Transmission) → IsMade (unhit starts) z → z.time ≢ offer.time = λ z made now.
        let there = made-unhit starts z made in
        let back = starts-offered offers starts is there.0 there.1 in
        let same : there.0.time ≡ z.time = ap (λ (y : Transmission). y.time) there.2 in
        let goes = meanwhile there.0 there.1 (omega (arith, same, now)) (omega (arith, same, now, late)) in
        let before = found.started back.0 there.0 (record { is_offer = back.1; is_start = there.1; same = sym back.3 }) (omega (arith, back.2, same, now))
        (subst (λ f. Before (arbitration_field f) (arbitration_field offer.frame)) (sym back.3) goes) in
        omega (arith, before, same, now) in
        let less = kept-less course offer.time none (one_unhit start) (unhit-made starts start at.is_start) late in
        let wait = exact in
        absurd (omega (arith, less, wait, found.free, kept-unhit offer.time start.time starts))
  ]
