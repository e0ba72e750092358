-- How long an offered frame waits at most, if frames are disturbed in the meantime.
use Rattle.std.specs.Prelude.{filter, nat_lt, slice_get, take, ◌&&◌}
use Rattle.std.proofs.Common.{◌≡◌, ℕ, zero, suc, ◌+◌, ◌<◌, ◌≤◌, Bool, true, false, cond, Option, Some, None, List, [], ◌∷◌, ◌++◌, length, map, refl, sym, ◌∙◌, ap, subst, inl, inr, arith}
use Rattle.std.specs.List.{sum_by}
use Rattle.std.proofs.lemmas.Bool.{cases_Bool, cases_lt, lt-ltb}
use Rattle.std.proofs.lemmas.List.Sums.{sum_by-cons, sum_by-append}
use Rattle.can_frame.specs.Parts.{Parts, IsFrame}
use Rattle.can_frame.specs.Arbitration.{arbitration_field, Before}
use Rattle.can_wire.specs.Wire.{stuffed_part}
use Rattle.can_mac.proofs.FrameParts.{length-wire}
use Rattle.can_node.specs.Ports.{PortState, goes_before, same_field}
use Rattle.can_node.proofs.WaitingLemmas.{Wins-goes_before, Shares-same_field, same_field-Shares}
use Rattle.can_terms.specs.declared.hit.Hit.{Hit}
use Rattle.can_bus.specs.declared.offer.Offer.{Offer}
use Rattle.can_bus.specs.Course.{FallsInWindow, Transmission, IsCourse, over, attempted, IsMade, keeping, left_by}
use Rattle.can_bus.specs.Schedule.{unhit}
use Rattle.can_bus.specs.CourseWaiting.{AreInTime, IsSentBy, attempts_between, going_before, hit_attempts, kept_times, left_behind, left_on, of_field, sent_attempts, ahead_of, busy_times}
use Rattle.can_bus.specs.Offers.{AreOffered}
use Rattle.can_bus.specs.Quiet.{queued, busy_time, span}
use Rattle.can_bus.specs.Timed.{TimedParts, Lists, without_offer, frames_of, all_offers, offered_first, timed}
use Rattle.can_bus.proofs.CourseTracks.{course-free}
use Rattle.can_bus.proofs.CourseWaits.{Awaits, FieldsInOrder, GoesFirst, IsOwn, awaits-listed, awaits-made, between-before, between-late, between-more, between-none, fields-left, fields-without, first-left, hit-awaits, next-first, others-kept, sends-it, sent-cases, wait-exact, wait-first, wait-own}
use Rattle.can_bus.proofs.Fields.{field-more, field-skip}
use Rattle.can_bus.proofs.Lateness.{late-behind, lateness-few}
use Rattle.can_bus.proofs.Members.{filter-stands, stands-filter}
use Rattle.can_bus.proofs.OfferLemmas.{offers-rise}
use Rattle.can_bus.proofs.OfferTimes.{AreInOrder}
use Rattle.can_bus.proofs.OwnedFields.{field-append, field-cases, field-none}
use Rattle.can_bus.proofs.OwnOffers.{first-out, first-stays}

-- ---- the list of offers, parted

pub parted : (offers : List TimedParts) (n : ℕ) (x : TimedParts) → slice_get offers n ≡ Some x → (after : List TimedParts) × (offers ≡ take n offers ++ x ∷ after)
parted [] n x at = absurd (let h : None ≡ Some x = at in cc)
parted (y ∷ offers) zero x at = let e : y ≡ x = (let h : Some y ≡ Some x = at in cc) in (offers, ap (λ z. z ∷ offers) e)
parted (y ∷ offers) (suc n) x at = let rest = parted offers n x at in (rest.0, ap (λ l. y ∷ l) rest.1)

pub in-order : (offers : List TimedParts) → AreInTime offers → FieldsInOrder offers
in-order [] rise f = tt
in-order (x ∷ offers) rise f =
    let rest : AreInOrder (of_field f offers) = in-order offers (λ m n y z less a b. rise (suc m) (suc n) y z (omega (arith, less)) a b) f in
    elim (cases_Bool (same_field f x.frame)) [
      | inl same ↦
          subst AreInOrder (sym (field-more f x offers same)) (
            (λ y there.
                let own = filter-stands (λ z. same_field f z.frame) offers y there in
                rise 0 (suc own.0.0) x y (omega arith) refl own.0.1 (sym (same_field-Shares f x.frame same) ∙ same_field-Shares f y.frame own.1)),
            rest,
          )
      | inr other ↦ subst AreInOrder (sym (field-skip f x offers other)) rest
    ]

pub some-first : (own : List TimedParts) (y : TimedParts) → Lists own y → (x : TimedParts) × (more : List TimedParts) × (own ≡ x ∷ more)
some-first [] y there = absurd (let h : None ≡ Some y = there.1 in cc)
some-first (x ∷ own) y there = (x, own, refl)

-- ---- frames, weighed

module _ (weight : Parts → ℕ) where
  abbrev pub weigh : List TimedParts → ℕ
  weigh timed = sum_by (λ (x : TimedParts). weight x.frame) timed

  pub weigh-passed : (b : Bool) (x : TimedParts) (timed : List TimedParts) → weigh (cond b (x ∷ timed) timed) ≡ cond b (weight x.frame) 0 + weigh timed
  weigh-passed true x timed = sum_by-cons (λ (y : TimedParts). weight y.frame) x timed
  weigh-passed false x timed = omega arith

-- how long they keep the bus
pub busy-weighed : (timed : List TimedParts) → busy_times timed ≡ weigh busy_time timed
unfolding span
busy-weighed [] = refl
busy-weighed (x ∷ timed) = omega (arith, busy-weighed timed, sum_by-cons busy_time x.frame (frames_of timed), sum_by-cons (λ (y : TimedParts). busy_time y.frame) x timed)

pub length-weigh : (timed : List TimedParts) → sum_by (λ (x : TimedParts). 1) timed ≡ length timed
length-weigh [] = refl
length-weigh (x ∷ timed) = omega (arith, sum_by-cons (λ (y : TimedParts). 1) x timed, length-weigh timed)

-- an attempt that starts no earlier than a time, and those after it
none-earlier : {hits : List Hit} {number free : ℕ} {left : List TimedParts} {course : List Transmission} → IsCourse hits number free left course → (a : Transmission) → a.time ≤ free → (from : ℕ) → from ≤ a.time →
    (z : Transmission) → IsMade (a ∷ course) z → from ≤ z.time
none-earlier rest a early from within z (inl e) = let same : a.time ≡ z.time = ap (λ (w : Transmission). w.time) e in omega (arith, within, same)
none-earlier rest a early from within z (inr behind) = omega (arith, within, early, course-free rest z behind)

-- ---- what an attempt takes from the offers

module _ (weight : Parts → ℕ) where
  pub weigh-first : (test : TimedParts → Bool) (f : Parts) (left : List TimedParts) (y : TimedParts) (more : List TimedParts) → of_field f left ≡ y ∷ more →
      weigh weight (filter test left) ≡ cond (test y) (weight y.frame) 0 + weigh weight (filter test (without_offer f left))
  weigh-first test f [] y more e = absurd (let h : [] ≡ y ∷ more = e in cc)
  weigh-first test f (z ∷ left) y more e = elim (cases_Bool (same_field f z.frame)) [
    | inl same ↦
        let both : z ∷ of_field f left ≡ y ∷ more = sym (field-more f z left same) ∙ e in
        let one : z ≡ y = cc in
        weigh-passed weight (test z) z (filter test left)
        ∙ ap (λ (w : TimedParts). cond (test w) (weight w.frame) 0 + weigh weight (filter test left)) one
        ∙ ap (λ l. cond (test y) (weight y.frame) 0 + weigh weight (filter test l)) (sym (first-out f z left same))
    | inr other ↦
        let behind = weigh-first test f left y more (sym (field-skip f z left other) ∙ e) in
        let here = weigh-passed weight (test z) z (filter test left) in
        let stays = ap (λ l. weigh weight (filter test l)) (first-stays f z left other) ∙ weigh-passed weight (test z) z (filter test (without_offer f left)) in
        omega (arith, behind, here, stays)
  ]

  -- the weight of the attempts that send a frame in between
  abbrev sent_weight : List Transmission → TimedParts → Transmission → ℕ
  sent_weight course x s = sum_by (λ (z : Transmission). weight z.frame) (sent_attempts (attempts_between x.time s.time course))

  -- and what goes before an offer, of these that are left
  abbrev ahead_weight : List TimedParts → List TimedParts → TimedParts → Transmission → ℕ
  ahead_weight left before x s = weigh weight (ahead_of x.frame s.time left) + weigh weight (of_field x.frame before)

  module _ (time : ℕ) (f : Parts) (course : List Transmission) (x : TimedParts) (s : Transmission) where
    abbrev here : Option ℕ → Transmission
    here hit = record { time = time; frame = f; hit = hit }

    sent-more : x.time ≤ time → time < s.time → sent_weight (here None ∷ course) x s ≡ weight f + sent_weight course x s
    sent-more from until =
        ap (λ l. sum_by (λ (z : Transmission). weight z.frame) (sent_attempts l)) (between-more x.time s.time (here None) course from until)
        ∙ sum_by-cons (λ (z : Transmission). weight z.frame) (here None) (sent_attempts (attempts_between x.time s.time course))

    sent-before : (hit : Option ℕ) → time < x.time → sent_weight (here hit ∷ course) x s ≡ sent_weight course x s
    sent-before hit early = ap (λ l. sum_by (λ (z : Transmission). weight z.frame) (sent_attempts l)) (between-before x.time s.time (here hit) course early)

    sent-hit : (offset : ℕ) → x.time ≤ time → sent_weight (here (Some offset) ∷ course) x s ≡ sent_weight course x s
    sent-hit offset from = elim (cases_lt time s.time) [
      | inl until ↦ ap (λ l. sum_by (λ (z : Transmission). weight z.frame) (sent_attempts l)) (between-more x.time s.time (here (Some offset)) course from until)
      | inr late ↦ ap (λ l. sum_by (λ (z : Transmission). weight z.frame) (sent_attempts l)) (between-late x.time s.time (here (Some offset)) course late)
    ]

  sent-none : (course : List Transmission) (x : TimedParts) (s : Transmission) → ((z : Transmission) → IsMade course z → s.time ≤ z.time) → sent_weight course x s ≡ 0
  sent-none course x s late = ap (λ l. sum_by (λ (z : Transmission). weight z.frame) (sent_attempts l)) (between-none x.time s.time course late)

  -- ---- once the offer is made

  module _ (free time : ℕ) (f : Parts) (left : List TimedParts) (course : List Transmission) (x : TimedParts) (s : Transmission) (before : List TimedParts) where
    abbrev tested : TimedParts → Bool
    tested = λ y. goes_before y.frame x.frame && nat_lt y.time s.time

    -- an attempt that wins arbitration takes away one offer that was counted
    wins-less : (y : TimedParts) (more : List TimedParts) → of_field f left ≡ y ∷ more → y.frame ≡ f → y.time < s.time → Before (arbitration_field f) (arbitration_field x.frame) →
        weigh weight (ahead_of x.frame s.time left) ≡ weight f + weigh weight (ahead_of x.frame s.time (without_offer f left))
    wins-less y more first frame early goes =
        let passes : tested y ≡ true =
        ap (λ b. b && nat_lt y.time s.time) (Wins-goes_before y.frame x.frame (subst (λ g. Before (arbitration_field g) (arbitration_field x.frame)) (sym frame) goes)) ∙ lt-ltb y.time s.time early in
        weigh-first tested f left y more first
        ∙ ap (λ b. cond b (weight y.frame) 0 + weigh weight (ahead_of x.frame s.time (without_offer f left))) passes
        ∙ ap (λ g. weight g + weigh weight (ahead_of x.frame s.time (without_offer f left))) frame

    -- any takes away none too many
    never-more : (y : TimedParts) (more : List TimedParts) → of_field f left ≡ y ∷ more → weigh weight (ahead_of x.frame s.time (without_offer f left)) ≤ weigh weight (ahead_of x.frame s.time left)
    never-more y more first = omega (arith, weigh-first tested f left y more first)

    -- one of its own field takes away one that is before it
    own-less : (y : TimedParts) (more : List TimedParts) → of_field f before ≡ y ∷ more → y.frame ≡ f → same_field x.frame f ≡ true →
        weigh weight (of_field x.frame before) ≡ weight f + weigh weight (of_field x.frame (without_offer f before))
    own-less y more first frame same =
        weigh-first (λ z. same_field x.frame z.frame) f before y more first
        ∙ ap (λ b. cond b (weight y.frame) 0 + weigh weight (of_field x.frame (without_offer f before))) (ap (same_field x.frame) frame ∙ same)
        ∙ ap (λ g. weight g + weigh weight (of_field x.frame (without_offer f before))) frame

  one-before : (f : Parts) (left before rest : List TimedParts) (y : TimedParts) (more : List TimedParts) → left ≡ before ++ rest → of_field f left ≡ y ∷ more → (z : TimedParts) → Lists (of_field f before) z →
      (others : List TimedParts) × (of_field f before ≡ y ∷ others)
  one-before f left before rest y more whole first z there =
      let some = some-first (of_field f before) z there in
      let both : some.0 ∷ (some.1 ++ of_field f rest) ≡ y ∷ more = ap (λ l. l ++ of_field f rest) (sym some.2) ∙ sym (field-append f before rest) ∙ ap (of_field f) (sym whole) ∙ first in
      let e : some.0 ≡ y = cc in
      (some.1, some.2 ∙ ap (λ w. w ∷ some.1) e)

  late-weigh : {hits : List Hit} {number free : ℕ} {left : List TimedParts} {course : List Transmission} → IsCourse hits number free left course → FieldsInOrder left →
      (x : TimedParts) (s : Transmission) (before : List TimedParts) → Awaits left course x s before → ((z : Transmission) → IsMade course z → x.time ≤ z.time) → sent_weight course x s ≤ ahead_weight left before x s
  late-weigh (over number free) order x s before waits from = absurd (let h : None ≡ Some s = waits.turn in cc)
  late-weigh (attempted number free time f None left course is unhit window rest) order x s before waits from =
      let a : Transmission = record { time = time; frame = f; hit = None } in
      let here : x.time ≤ time = from a (inl refl) in
      let head = first-left free left time f is order in
      let ends : (other : a ≡ s) → sent_weight (a ∷ course) x s ≤ ahead_weight left before x s = λ same.
      let at : time ≡ s.time = ap (λ (z : Transmission). z.time) same in
      let none = sent-none (a ∷ course) x s (none-earlier rest a (omega arith) s.time (omega (arith, at))) in omega (arith, none) in
      elim (sent-cases free time f left course is order x s before None waits) [
        | inl sends ↦ ends sends.same
        | inr later ↦
            let goes : time < s.time = omega (arith, course-free rest s (awaits-made later).0) in
            let behind = late-weigh rest (fields-without f left order) x s (without_offer f before) later (λ z made. from z (inr made)) in
            let one = sent-more time f course x s here goes in
            let fewer = never-more free time f left course x s before head.offer head.more head.first in
            elim (cases_Bool (same_field x.frame f)) [
              | inr other ↦ elim (next-first free left a is x (awaits-listed waits) here) [
                | inl wins ↦
                    let less = wins-less free time f left course x s before head.offer head.more head.first head.frame (let t = head.in_time in omega (arith, t, goes)) wins in
                    let kept = ap (weigh weight) (others-kept free time f left course is order x s before other) in
                    omega (arith, behind, one, less, kept)
                | inr shares ↦ (let same : same_field x.frame f ≡ true = Shares-same_field x.frame f (sym shares) in cc)
              ]
              | inl same ↦ elim (field-cases x.frame before) [
                | inl none ↦ ends (sends-it free time f left course is order x s before waits same (field-none x.frame before none)).same
                | inr has ↦
                    let there : Lists (of_field f before) has.0 =
                    stands-filter (λ z. same_field f z.frame) before has.0 has.1 (Shares-same_field f has.0.frame (sym (same_field-Shares x.frame f same) ∙ has.2)) in
                    let own = one-before f left before (x ∷ waits.after) head.offer head.more waits.whole head.first has.0 there in
                    let less = own-less free time f left course x s before head.offer own.0 own.1 head.frame same in
                    omega (arith, behind, one, less, fewer)
              ]
            ]
      ]
  late-weigh (attempted number free time f (Some offset) left course is struck window rest) order x s before waits from =
      let a : Transmission = record { time = time; frame = f; hit = Some offset } in
      let behind = late-weigh rest order x s before (hit-awaits free time f left course is order x s before offset waits) (λ z made. from z (inr made)) in
      omega (arith, behind, sent-hit time f course x s offset (from a (inl refl)))

  -- ---- from the begin of the course on

  abbrev going_weight : List TimedParts → List TimedParts → List Transmission → TimedParts → Transmission → ℕ
  going_weight left before course x s = ahead_weight (left_behind left (attempts_between 0 x.time course)) (left_behind before (attempts_between 0 x.time course)) x s

  -- if no attempt has been made by then
  late-going : (left before : List TimedParts) (course : List Transmission) (x : TimedParts) (s : Transmission) → ((z : Transmission) → IsMade course z → x.time ≤ z.time) →
      sent_weight course x s ≤ ahead_weight left before x s → sent_weight course x s ≤ going_weight left before course x s
  late-going left before course x s from less =
      subst (λ l. sent_weight course x s ≤ ahead_weight (left_behind left l) (left_behind before l) x s) (sym (between-none 0 x.time course from)) less

  pub weigh-going : {hits : List Hit} {number free : ℕ} {left : List TimedParts} {course : List Transmission} → IsCourse hits number free left course → FieldsInOrder left →
      (x : TimedParts) (s : Transmission) (before : List TimedParts) → Awaits left course x s before → sent_weight course x s ≤ going_weight left before course x s
  weigh-going (over number free) order x s before waits = absurd (let h : None ≡ Some s = waits.turn in cc)
  weigh-going (attempted number free time f hit left course is told window rest) order x s before waits =
      let a : Transmission = record { time = time; frame = f; hit = hit } in
      elim (cases_lt time x.time) [
        | inr from ↦
            let all = none-earlier rest a (omega arith) x.time from in
            late-going left before (a ∷ course) x s all (late-weigh (attempted number free time f hit left course is told window rest) order x s before waits all)
        | inl early ↦ elim (sent-cases free time f left course is order x s before hit waits) [
          | inl sends ↦ absurd (let t = sends.in_time in omega (arith, t, early))
          | inr later ↦
              let behind = weigh-going rest (fields-left f hit left order) x s (left_by f hit before) later in
              let same = sent-before time f course x s hit early in
              subst (λ l. sent_weight (a ∷ course) x s ≤ ahead_weight (left_behind left l) (left_behind before l) x s) (sym (between-more 0 x.time a course (omega arith) early))
              (omega (arith, behind, same))
        ]
      ]

-- ---- attempts that send a frame, and attempts that are hit

kept-one : (time : ℕ) (f : Parts) (hit : Option ℕ) (course : List Transmission) →
    kept_times course ≡ sum_by (λ (z : Transmission). busy_time z.frame) (sent_attempts course) + kept_times (hit_attempts course) →
    kept_times (record { time = time; frame = f; hit = hit } ∷ course) ≡
    sum_by (λ (z : Transmission). busy_time z.frame) (sent_attempts (record { time = time; frame = f; hit = hit } ∷ course)) + kept_times (hit_attempts (record { time = time; frame = f; hit = hit } ∷ course))
kept-one time f None course rest =
    let a : Transmission = record { time = time; frame = f; hit = None } in
    omega (arith, rest, sum_by-cons (λ (z : Transmission). keeping z.frame z.hit) a course, sum_by-cons (λ (z : Transmission). busy_time z.frame) a (sent_attempts course))
kept-one time f (Some offset) course rest =
    let a : Transmission = record { time = time; frame = f; hit = Some offset } in
    omega (arith, rest, sum_by-cons (λ (z : Transmission). keeping z.frame z.hit) a course, sum_by-cons (λ (z : Transmission). keeping z.frame z.hit) a (hit_attempts course))

kept-parts : (course : List Transmission) → kept_times course ≡ sum_by (λ (z : Transmission). busy_time z.frame) (sent_attempts course) + kept_times (hit_attempts course)
kept-parts [] = refl
kept-parts (s ∷ course) = kept-one s.time s.frame s.hit course (kept-parts course)

length-sent : (course : List Transmission) → sum_by (λ (z : Transmission). 1) course ≡ length course
length-sent [] = refl
length-sent (s ∷ course) = omega (arith, sum_by-cons (λ (z : Transmission). 1) s course, length-sent course)

-- a hit in the window costs thirteen bit times at most
hit-cost : (f : Parts) (hit : Option ℕ) → IsFrame f → FallsInWindow f hit → keeping f hit ≤ busy_time f + 13
hit-cost f None is window = omega arith
hit-cost f (Some zero) is window = absurd (omega (arith, window.behind_field))
hit-cost f (Some (suc o)) is window = elim (cases_lt (suc o) (length (stuffed_part f))) [
  | inl within ↦ omega (arith, within, lateness-few f (suc o), length-wire f)
  | inr past ↦ omega (arith, late-behind f is (suc o) (omega arith) past, window.before_last, length-wire f)
]

pub course-costs : {hits : List Hit} {number free : ℕ} {left : List TimedParts} {course : List Transmission} → IsCourse hits number free left course → (s : Transmission) → IsMade course s → IsFrame s.frame →
    keeping s.frame s.hit ≤ busy_time s.frame + 13
course-costs (over number free) s made framed = absurd made
course-costs (attempted number free time f hit left course is told window rest) s (inl here) framed =
    subst (λ (z : Transmission). keeping z.frame z.hit ≤ busy_time z.frame + 13) here
    (hit-cost f hit (subst (λ (z : Transmission). IsFrame z.frame) (sym here) framed) window)
course-costs (attempted number free time f hit left course is told window rest) s (inr made) framed = course-costs rest s made framed

-- ---- the wait, from a course

module _ (hits : List Hit) (offers : List TimedParts) (course : List Transmission) (is : IsCourse hits 0 0 offers course) (rise : AreInTime offers)
    (place : ℕ) (offer : TimedParts) (s : Transmission) (by : IsSentBy offers course place offer s) where
  order : FieldsInOrder offers
  order = in-order offers rise

  waits : Awaits offers course offer s (take place offers)
  waits = let parts = parted offers place offer by.is_offer in record { after = parts.0; whole = parts.1; turn = by.is_attempt }

  pub own : IsOwn offer s
  own = wait-own is order offer s (take place offers) waits

  pub exact : s.time ≡ offer.time + left_on offer.time course + kept_times (attempts_between offer.time s.time course)
  exact = let wait = wait-exact is order offer s (take place offers) waits in omega arith

  pub meanwhile : (z : Transmission) → IsMade course z → offer.time ≤ z.time → z.time < s.time → GoesFirst z offer
  meanwhile = wait-first is order offer s (take place offers) waits

  pub going : (weight : Parts → ℕ) →
      sum_by (λ (z : Transmission). weight z.frame) (sent_attempts (attempts_between offer.time s.time course)) ≤ sum_by (λ (x : TimedParts). weight x.frame) (going_before offers course place offer s.time)
  going weight =
      let begun = attempts_between 0 offer.time course in
      let less = weigh-going weight is order offer s (take place offers) waits in
      let both = sum_by-append (λ (x : TimedParts). weight x.frame) (ahead_of offer.frame s.time (left_behind offers begun)) (of_field offer.frame (left_behind (take place offers) begun)) in
      omega (arith, less, both)

  pub bound : s.time ≤ offer.time + left_on offer.time course + busy_times (going_before offers course place offer s.time) + kept_times (hit_attempts (attempts_between offer.time s.time course))
  bound = omega (arith, exact, kept-parts (attempts_between offer.time s.time course), going busy_time, busy-weighed (going_before offers course place offer s.time))

  pub few : length (sent_attempts (attempts_between offer.time s.time course)) ≤ length (going_before offers course place offer s.time)
  few = omega (arith, going (λ f. 1), length-sent (sent_attempts (attempts_between offer.time s.time course)), length-weigh (going_before offers course place offer s.time))

-- ---- the offers of a call come in time

rise-first : (queue : List Parts) (behind : List TimedParts) → AreInTime behind → AreInTime (offered_first queue ++ behind)
rise-first [] behind rise m n x y less a b same = rise m n x y less a b same
rise-first (f ∷ queue) behind rise zero zero x y less a b same = absurd (omega (arith, less))
rise-first (f ∷ queue) behind rise zero (suc n) x y less a b same = let e : record { time = 0; frame = f } ≡ x = (let h : Some (record { time = 0; frame = f }) ≡ Some x = a in cc) in subst (λ (z : TimedParts). z.time ≤ y.time) e (omega arith)
rise-first (f ∷ queue) behind rise (suc m) zero x y less a b same = absurd (omega (arith, less))
rise-first (f ∷ queue) behind rise (suc m) (suc n) x y less a b same = rise-first queue behind rise m n x y (omega (arith, less)) a b same

timed-at : (offers : List Offer) (n : ℕ) (x : TimedParts) → slice_get (map timed offers) n ≡ Some x → (offer : Offer) × (slice_get offers n ≡ Some offer) × (offer.time ≡ x.time)
timed-at [] n x at = absurd (let h : None ≡ Some x = at in cc)
timed-at (offer ∷ offers) zero x at = (offer, refl, let e : timed offer ≡ x = (let h : Some (timed offer) ≡ Some x = at in cc) in ap (λ (z : TimedParts). z.time) e)
timed-at (offer ∷ offers) (suc n) x at = timed-at offers n x at

pub offers-in_time : (offers : List Offer) (ports : List PortState) → AreOffered (length ports) offers → AreInTime (all_offers offers ports)
offers-in_time offers ports offered =
    rise-first (queued ports) (map timed offers) (λ m n x y less a b same.
    let one = timed-at offers m x a in
    let other = timed-at offers n y b in
    let t = offers-rise (length ports) offers offered m n one.0 other.0 (omega (arith, less)) one.1 other.1 in
    omega (arith, t, one.2, other.2))
