-- A course, and a call on a bus at rest, are the same a number of bit times later.
use Rattle.std.specs.Prelude.{if◌then◌else◌, filter, max, nat_le, slice_get, ◌==◌, ◌&&◌}
use Rattle.std.specs.List.{list_any}
use Rattle.std.proofs.Common.{◌≡◌, ◌≢◌, ℕ, zero, suc, ◌+◌, ◌<◌, ◌≤◌, ◌||◌, Bool, true, false, Option, Some, None, List, [], ◌∷◌, map, refl, sym, ap, subst, ◌∙◌, arith}
use Rattle.std.proofs.lemmas.Bool.Decides.{nat_tests}
use Rattle.can_frame.specs.declared.level.Level.{Level}
use Rattle.can_frame.specs.declared.level.Level.TheVariants.{Recessive}
use Rattle.can_frame.specs.Parts.{Parts}
use Rattle.can_node.specs.Ports.{IsAtRest, PortState, port_drives, port_step, same_field, with_offer}
use Rattle.can_node.specs.Waiting.{IsWaiting}
use Rattle.can_node.proofs.PortLemmas.{rests_recessive, rests_unchanged}
use Rattle.can_terms.specs.declared.hit.Hit.{Hit}
use Rattle.can_terms.specs.declared.hit.Hit.TheVariants.{At, In, View}
use Rattle.can_bus.specs.declared.moment.Attempt.{Attempt}
use Rattle.can_bus.specs.declared.offer.Offer.{Offer}
use Rattle.can_bus.specs.Course.{IsCourse, IsNext, Transmission, attempted, keeping, left_by, over}
use Rattle.can_bus.specs.Offers.{all_made, call_after, call_level, call_refused, is_full, made, offered_now, refused_at}
use Rattle.can_bus.specs.Run.{BusState, CallState, all_sampled, attempt_now, bus_after, bus_step, hits_view, hits_wire, inverted_if, is_attempt, recorded, rest_after, wired_level}
use Rattle.can_bus.specs.Shifts.{IsBusAtRest, attempts_later, frame_later, frames_later, hits_later, offer_later, offers_later}
use Rattle.can_bus.specs.Timed.{Lists, TimedParts, frames_of, offered_by, without_offer}
use Rattle.can_bus.specs.Wired.{wired, over as over_level}
use Rattle.can_bus.proofs.BusAtRest.{IsFree, IsResting, rest_recorded, rests_on}
use Rattle.can_bus.proofs.OfferLemmas.{none_made}
use Rattle.can_bus.proofs.StepLemmas.{call_of, same_call}

same_time : (d a b : ℕ) → ((d + a) == (d + b)) ≡ (a == b)
same_time d a b = grind (arith, nat_tests)

same_order : (d a b : ℕ) → nat_le (d + a) (d + b) ≡ nat_le a b
same_order d a b = grind (arith, nat_tests)

-- what lies d bit times later lies there no sooner
not-yet : (d a time : ℕ) → time < d → ((d + a) == time) ≡ false
not-yet d a time early = grind (arith, nat_tests)

others-later : (d t : ℕ) (offers : List Offer) → t < d → (n : ℕ) (offer : Offer) → slice_get (offers_later d offers) n ≡ Some offer → offer.time ≢ t
others-later d t [] early n offer there now = let none : None ≡ Some offer = there in cc
others-later d t (x ∷ offers) early zero offer there now =
    let same : Some (offer_later d x) ≡ Some offer = there in
    let at : d + x.time ≡ offer.time = cc in
    omega (arith, at, now, early)
others-later d t (x ∷ offers) early (suc n) offer there now = others-later d t offers early n offer there now

-- ports at rest
all-wired : (ports : List PortState) → ((n : ℕ) (p : PortState) → slice_get ports n ≡ Some p → IsAtRest p) → wired (map port_drives ports) ≡ Recessive
unfolding wired
all-wired [] rest = refl
all-wired (p ∷ ports) rest =
    ap (λ x. over_level x (wired (map port_drives ports))) (rests_recessive p (rest 0 p refl)) ∙ all-wired ports (λ n q there. rest (suc n) q there)

all-still : (ports : List PortState) → ((n : ℕ) (p : PortState) → slice_get ports n ≡ Some p → IsAtRest p) → map (λ p. port_step p Recessive) ports ≡ ports
all-still [] rest = refl
all-still (p ∷ ports) rest =
    ap (λ q. q ∷ map (λ r. port_step r Recessive) ports) (rests_unchanged p (rest 0 p refl)) ∙ ap (λ ps. p ∷ ps) (all-still ports (λ n q there. rest (suc n) q there))

-- ---- a course

front-frames : (b : Bool) (x y : TimedParts) (xs ys : List TimedParts) → x.frame ≡ y.frame → frames_of xs ≡ frames_of ys → frames_of (if b then x ∷ xs else xs) ≡ frames_of (if b then y ∷ ys else ys)
front-frames true x y xs ys front rest = ap (λ f. f ∷ frames_of xs) front ∙ ap (λ fs. y.frame ∷ fs) rest
front-frames false x y xs ys front rest = rest

module _ (d : ℕ) where
  offered-later : (t : ℕ) (left : List TimedParts) → offered_by (d + t) (frames_later d left) ≡ offered_by t left
  offered-later t [] = refl
  offered-later t (x ∷ left) =
      let y : TimedParts = frame_later d x in
      let later : List TimedParts = filter (λ (z : TimedParts). nat_le z.time (d + t)) (frames_later d left) in
      ap (λ b. frames_of (if b then y ∷ later else later)) (same_order d x.time t)
      ∙ front-frames (nat_le x.time t) y x later (filter (λ (z : TimedParts). nat_le z.time t) left) refl (offered-later t left)

  left-without : (b : Bool) (x : TimedParts) (left rest : List TimedParts) (behind : List TimedParts) → behind ≡ frames_later d rest →
      (if b then frames_later d left else frame_later d x ∷ behind) ≡ frames_later d (if b then left else x ∷ rest)
  left-without true x left rest behind same = refl
  left-without false x left rest behind same = ap (λ xs. frame_later d x ∷ xs) same

  without-later : (f : Parts) (left : List TimedParts) → without_offer f (frames_later d left) ≡ frames_later d (without_offer f left)
  without-later f [] = refl
  without-later f (x ∷ left) = left-without (same_field f x.frame) x left (without_offer f left) (without_offer f (frames_later d left)) (without-later f left)

  left-later : (f : Parts) (hit : Option ℕ) (left : List TimedParts) → left_by f hit (frames_later d left) ≡ frames_later d (left_by f hit left)
  left-later f None left = without-later f left
  left-later f (Some offset) left = refl

  -- a frame that is offered later is one of these
  listed-later : (left : List TimedParts) (x : TimedParts) → Lists (frames_later d left) x → (y : TimedParts) × Lists left y × (x.time ≡ d + y.time)
  listed-later [] x (n, e) = let none : None ≡ Some x = e in cc
  listed-later (y ∷ left) x (zero, e) = let same : Some (frame_later d y) ≡ Some x = e in let at : x.time ≡ d + y.time = cc in (y, (zero, refl), at)
  listed-later (y ∷ left) x (suc n, e) = let there = listed-later left x (n, e) in (there.0, (suc there.1.0, there.1.1), there.2)

  -- free at this time or, before any frame is offered, sooner
  module _ (free from : ℕ) (no_later : from ≤ d + free) (no_sooner : d + free ≤ max from d) where
    next-later : (left : List TimedParts) (time : ℕ) (f : Parts) → IsNext free left time f → IsNext from (frames_later d left) (d + time) f
    next-later left time f is = record {
      is_free = omega (arith, no_later, is.is_free);
      soon = λ x there. let y = listed-later left x there in let soon = is.soon y.0 y.1 in let at = y.2 in omega (arith, no_sooner, soon, at);
      waits = subst (λ fs. IsWaiting fs f) (sym (offered-later time left)) is.waits;
    }

  from-later : {hits : List Hit} {number free : ℕ} {left : List TimedParts} {course : List Transmission} (from : ℕ) → from ≤ d + free → d + free ≤ max from d →
      IsCourse hits number free left course → IsCourse hits number from (frames_later d left) (attempts_later d course)
  from-later from no_later no_sooner (over number free) = over number from
  from-later {hits} from no_later no_sooner (attempted number free time f hit left course is told window rest) =
      let behind : ℕ = (d + time) + keeping f hit in
      attempted number from (d + time) f hit (frames_later d left) (attempts_later d course) (next-later free from no_later no_sooner left time f is) told window
      (subst (λ xs. IsCourse hits (number + 1) behind xs (attempts_later d course)) (sym (left-later f hit left)) (from-later behind (omega arith) (omega arith) rest))

pub course-later : (d : ℕ) (hits : List Hit) (offers : List TimedParts) (course : List Transmission) → IsCourse hits 0 0 offers course →
    IsCourse hits 0 0 (frames_later d offers) (attempts_later d course)
course-later d hits offers course is = from-later d 0 (omega arith) (omega arith) is

-- ---- the hits and the offers of a bit time

module _ (d : ℕ) where
  wire-later : (time : ℕ) (a : Option Attempt) (hits : List Hit) → list_any (hits_wire (d + time) a) (hits_later d hits) ≡ list_any (hits_wire time a) hits
  wire-later time a [] = refl
  wire-later time a (At t ∷ hits) = ap (λ b. b || list_any (hits_wire (d + time) a) (hits_later d hits)) (same_time d t time) ∙ ap (λ b. (t == time) || b) (wire-later time a hits)
  wire-later time a (In number offset ∷ hits) = ap (λ b. is_attempt a number offset || b) (wire-later time a hits)
  wire-later time a (View t node ∷ hits) = wire-later time a hits

  view-later : (time node : ℕ) (hits : List Hit) → list_any (hits_view (d + time) node) (hits_later d hits) ≡ list_any (hits_view time node) hits
  view-later time node [] = refl
  view-later time node (At t ∷ hits) = view-later time node hits
  view-later time node (In number offset ∷ hits) = view-later time node hits
  view-later time node (View t n ∷ hits) =
      ap (λ b. (b && (n == node)) || list_any (hits_view (d + time) node) (hits_later d hits)) (same_time d t time) ∙ ap (λ b. ((t == time) && (n == node)) || b) (view-later time node hits)

  made-later : (offer : Offer) (number : ℕ) (ports : List PortState) → made (offer_later d offer) number ports ≡ made offer number ports
  made-later offer number [] = refl
  made-later offer number (p ∷ ports) = ap (λ ps. (if offer.node == number then with_offer offer.frame p else p) ∷ ps) (made-later offer (number + 1) ports)

  all-later : (offers : List Offer) (t : ℕ) (ports : List PortState) → all_made (offers_later d offers) (d + t) ports ≡ all_made offers t ports
  all-later [] t ports = refl
  all-later (offer ∷ offers) t ports =
      ap (all_made (offers_later d offers) (d + t))
      (ap (λ b. if b then made (offer_later d offer) 0 ports else ports) (same_time d offer.time t)
      ∙ ap (λ ps. if offer.time == t then ps else ports) (made-later offer 0 ports))
      ∙ all-later offers t (if offer.time == t then made offer 0 ports else ports)

  refused-later : (offers : List Offer) (t : ℕ) (ports : List PortState) → refused_at (offers_later d offers) (d + t) ports ≡ refused_at offers t ports
  refused-later [] t ports = refl
  refused-later (offer ∷ offers) t ports =
      let full : ℕ = if is_full offer.node ports then 1 else 0 in
      let later : Offer = offer_later d offer in
      ap (λ b. if b then full + refused_at (offers_later d offers) (d + t) (made later 0 ports) else refused_at (offers_later d offers) (d + t) ports) (same_time d offer.time t)
      ∙ ap (λ ps. if offer.time == t then full + refused_at (offers_later d offers) (d + t) ps else refused_at (offers_later d offers) (d + t) ports) (made-later offer 0 ports)
      ∙ ap (λ n. if offer.time == t then full + n else refused_at (offers_later d offers) (d + t) ports) (refused-later offers t (made offer 0 ports))
      ∙ ap (λ n. if offer.time == t then full + refused_at offers t (made offer 0 ports) else n) (refused-later offers t ports)

-- ---- bit times of a call that is as far at a later time

abbrev call_later : ℕ → CallState → CallState
call_later d c = record { bus = c.bus; time = d + c.time; latest = c.latest }

module _ (d : ℕ) (hits : List Hit) where
  recorded-later : (c : CallState) → recorded (hits_later d hits) (call_later d c) ≡ recorded hits c
  unfolding recorded
  recorded-later c = ap (λ b. inverted_if b (wired_level c)) (wire-later d c.time (attempt_now c) hits)

  sampled-later : (time : ℕ) (x : Level) (number : ℕ) (ports : List PortState) → all_sampled (hits_later d hits) (d + time) x number ports ≡ all_sampled hits time x number ports
  sampled-later time x number [] = refl
  sampled-later time x number (p ∷ ports) =
      ap (λ b. port_step p (inverted_if b x) ∷ all_sampled (hits_later d hits) (d + time) x (number + 1) ports) (view-later d time number hits)
      ∙ ap (λ ps. port_step p (inverted_if (list_any (hits_view time number) hits) x) ∷ ps) (sampled-later time x (number + 1) ports)

  step-later : (c : CallState) → bus_step (hits_later d hits) (call_later d c) ≡ call_later d (bus_step hits c)
  unfolding bus_step
  step-later c =
      ap (λ x. call_of (all_sampled (hits_later d hits) (d + c.time) x 0 c.bus.ports) (rest_after c.bus.rest x) ((d + c.time) + 1) (attempt_now c)) (recorded-later c)
      ∙ same_call {rest = rest_after c.bus.rest (recorded hits c)} (sampled-later c.time (recorded hits c) 0 c.bus.ports) refl (let e : (d + c.time) + 1 ≡ d + (c.time + 1) = omega arith in e) refl

  -- ---- before the first of these offers and hits

  early-wire : (time : ℕ) → time < d → list_any (hits_wire time None) (hits_later d hits) ≡ false
  early-wire time early = from hits
    where
      from : (hits : List Hit) → list_any (hits_wire time None) (hits_later d hits) ≡ false
      from [] = refl
      from (At t ∷ hits) = ap (λ b. b || list_any (hits_wire time None) (hits_later d hits)) (not-yet d t time early) ∙ from hits
      from (In number offset ∷ hits) = from hits
      from (View t node ∷ hits) = from hits

  early-view : (time node : ℕ) → time < d → list_any (hits_view time node) (hits_later d hits) ≡ false
  early-view time node early = from hits
    where
      from : (hits : List Hit) → list_any (hits_view time node) (hits_later d hits) ≡ false
      from [] = refl
      from (At t ∷ hits) = from hits
      from (In number offset ∷ hits) = from hits
      from (View t n ∷ hits) = ap (λ b. (b && (n == node)) || list_any (hits_view time node) (hits_later d hits)) (not-yet d t time early) ∙ from hits

  module _ (offers : List Offer) (bus : BusState) (at_rest : IsBusAtRest bus) where
    resting : IsResting bus
    resting = record { wired = all-wired bus.ports at_rest.ports; rest = at_rest.rest; still = all-still bus.ports at_rest.ports }

    -- the call has begun this long ago, and nothing has happened
    abbrev waits_at : ℕ → CallState
    waits_at t = record { bus = bus; time = t; latest = None }

    none-offered : (t : ℕ) → t < d → offered_now (offers_later d offers) (waits_at t) ≡ waits_at t
    none-offered t early = ap (λ ps. call_of ps bus.rest t None) (none_made (offers_later d offers) t bus.ports (others-later d t offers early)).0

    free : (t : ℕ) → t < d → IsFree (hits_later d hits) (waits_at t) 1
    free t early = record {
      wire = λ k within. early-wire (t + k) (omega (arith, early, within));
      view = λ k node within. early-view (t + k) node (omega (arith, early, within));
    }

    step-waits : (t : ℕ) → t < d → bus_step (hits_later d hits) (waits_at t) ≡ waits_at (suc t)
    unfolding bus_after
    step-waits t early =
        rests_on (hits_later d hits) (waits_at t) 1 1 resting (free t early) (omega arith)
        ∙ ap waits_at (let e : t + 1 ≡ suc t = omega arith in e)

    call-waits : (t : ℕ) → t ≤ d → call_after (offers_later d offers) (hits_later d hits) t bus ≡ waits_at t
    unfolding call_after
    call-waits zero within = refl
    call-waits (suc t) within =
        ap (λ c. bus_step (hits_later d hits) (offered_now (offers_later d offers) c)) (call-waits t (omega (arith, within)))
        ∙ ap (bus_step (hits_later d hits)) (none-offered t (omega (arith, within)))
        ∙ step-waits t (omega (arith, within))

    pub waits-recessive : (t : ℕ) → t < d → call_level (offers_later d offers) (hits_later d hits) t bus ≡ Recessive
    unfolding call_level bus_after
    waits-recessive t early =
        ap (λ c. recorded (hits_later d hits) (offered_now (offers_later d offers) c)) (call-waits t (omega (arith, early)))
        ∙ ap (recorded (hits_later d hits)) (none-offered t early)
        ∙ rest_recorded (hits_later d hits) (waits_at t) 1 0 resting (free t early) (omega arith)

    none-refused : (t : ℕ) → t ≤ d → call_refused (offers_later d offers) (hits_later d hits) t bus ≡ 0
    unfolding call_refused
    none-refused zero within = refl
    none-refused (suc t) within =
        let ports = (call_after (offers_later d offers) (hits_later d hits) t bus).bus.ports in
        omega (arith, none-refused t (omega (arith, within)), (none_made (offers_later d offers) t ports (others-later d t offers (omega (arith, within)))).1)

    -- ---- and from there on

    offered-later-now : (c : CallState) → offered_now (offers_later d offers) (call_later d c) ≡ call_later d (offered_now offers c)
    offered-later-now c = ap (λ ps. call_of ps c.bus.rest (d + c.time) c.latest) (all-later d offers c.time c.bus.ports)

    call-at : (n : ℕ) → call_after (offers_later d offers) (hits_later d hits) (d + n) bus ≡ call_later d (call_after offers hits n bus)
    unfolding call_after
    call-at zero =
        ap (λ k. call_after (offers_later d offers) (hits_later d hits) k bus) (let e : d + 0 ≡ d = omega arith in e)
        ∙ call-waits d (omega arith) ∙ ap waits_at (let e : d ≡ d + 0 = omega arith in e)
    call-at (suc n) =
        ap (λ k. call_after (offers_later d offers) (hits_later d hits) k bus) (let e : d + suc n ≡ suc (d + n) = omega arith in e)
        ∙ ap (λ c. bus_step (hits_later d hits) (offered_now (offers_later d offers) c)) (call-at n)
        ∙ ap (bus_step (hits_later d hits)) (offered-later-now (call_after offers hits n bus))
        ∙ step-later (offered_now offers (call_after offers hits n bus))

    pub level-later : (t : ℕ) → call_level (offers_later d offers) (hits_later d hits) (d + t) bus ≡ call_level offers hits t bus
    unfolding call_level
    level-later t =
        ap (λ c. recorded (hits_later d hits) (offered_now (offers_later d offers) c)) (call-at t)
        ∙ ap (recorded (hits_later d hits)) (offered-later-now (call_after offers hits t bus))
        ∙ recorded-later (offered_now offers (call_after offers hits t bus))

    pub bus-later : (n : ℕ) → (call_after (offers_later d offers) (hits_later d hits) (d + n) bus).bus ≡ (call_after offers hits n bus).bus
    bus-later n = ap (λ (c : CallState). c.bus) (call-at n)

    time-after : (n : ℕ) → (call_after offers hits n bus).time ≡ n
    unfolding call_after bus_step
    time-after zero = refl
    time-after (suc n) = omega (arith, time-after n)

    pub refused-as-many : (n : ℕ) → call_refused (offers_later d offers) (hits_later d hits) (d + n) bus ≡ call_refused offers hits n bus
    unfolding call_refused
    refused-as-many zero =
        ap (λ k. call_refused (offers_later d offers) (hits_later d hits) k bus) (let e : d + 0 ≡ d = omega arith in e) ∙ none-refused d (omega arith)
    refused-as-many (suc n) =
        ap (λ k. call_refused (offers_later d offers) (hits_later d hits) k bus) (let e : d + suc n ≡ suc (d + n) = omega arith in e)
        ∙ ap (λ ps. call_refused (offers_later d offers) (hits_later d hits) (d + n) bus + refused_at (offers_later d offers) (d + n) ps) (ap (λ (c : CallState). c.bus.ports) (call-at n))
        ∙ ap (λ k. call_refused (offers_later d offers) (hits_later d hits) (d + n) bus + k) (refused-later d offers n (call_after offers hits n bus).bus.ports)
        ∙ ap (λ k. k + refused_at offers n (call_after offers hits n bus).bus.ports) (refused-as-many n)
