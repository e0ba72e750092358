-- What the ports of a scenario are offered, port by port, and all together.
use Rattle.std.specs.Prelude.{filter, slice_get}
use Rattle.std.specs.List.Sorted.{IsPermutation}
use Rattle.std.proofs.Common.{◌≡◌, ◌≢◌, ℕ, zero, suc, ◌+◌, ◌<◌, Bool, Some, None, List, [], ◌∷◌, ◌++◌, length, map, refl, sym, ap, subst, ◌∙◌, arith, inl, inr}
use Rattle.std.proofs.Math.Dec.{eqb}
use Rattle.std.proofs.lemmas.Bool.{cond-true, cond-false, eq-eqb, ne_eqb}
use Rattle.std.proofs.lemmas.List.{append-nil, length-map, map-append}
use Rattle.std.proofs.lemmas.List.Elements.{filter-append}
use Rattle.std.proofs.lemmas.List.Sorted.{IsPermutation-map, length_permutation}
use Rattle.can_frame.specs.Parts.{Parts}
use Rattle.can_bus.specs.declared.offer.Offer.{Offer}
use Rattle.can_bus.specs.Timed.{TimedParts, frames_of, offered_to, timed}
use Rattle.can_bus.proofs.Members.{Stands, map-stands, stands-either, stands-here, stands-later, stands-none}
use Rattle.can_scenario_text.specs.declared.scenario.PortPlan.{PortPlan}
use Rattle.can_scenario_text.specs.declared.scenario.TimedFrame.{TimedFrame}
use Rattle.can_trace.specs.OpenReport.{all_frames}
use Rattle.can_trace.specs.Report.{frames_of_queue}
use Rattle.can_trace.specs.ScenarioOffers.{in_time, offer_to, offers_from}
use Rattle.can_trace.proofs.OfferOrder.{in_time-filter, in_time-permuted}

abbrev is_to : ℕ → Offer → Bool
is_to node offer = eqb offer.node node

-- ---- one port

to-itself : (node : ℕ) (queue : List TimedFrame) → filter (is_to node) (map (offer_to node) queue) ≡ map (offer_to node) queue
to-itself node [] = refl
to-itself node (x ∷ queue) =
    cond-true (eqb node node) (offer_to node x ∷ filter (is_to node) (map (offer_to node) queue)) (filter (is_to node) (map (offer_to node) queue)) (eq-eqb node node refl)
    ∙ ap (λ l. offer_to node x ∷ l) (to-itself node queue)

to-another : (node other : ℕ) → other ≢ node → (queue : List TimedFrame) → filter (is_to node) (map (offer_to other) queue) ≡ []
to-another node other apart [] = refl
to-another node other apart (x ∷ queue) =
    cond-false (eqb other node) (offer_to other x ∷ filter (is_to node) (map (offer_to other) queue)) (filter (is_to node) (map (offer_to other) queue)) (ne_eqb other node apart)
    ∙ to-another node other apart queue

to-none : (node number : ℕ) → node < number → (plans : List PortPlan) → filter (is_to node) (offers_from number plans) ≡ []
to-none node number before [] = refl
to-none node number before (plan ∷ plans) =
    filter-append (is_to node) (map (offer_to number) plan.queue.items) (offers_from (number + 1) plans)
    ∙ ap (λ l. l ++ filter (is_to node) (offers_from (number + 1) plans)) (to-another node number (λ e. omega (arith, e, before)) plan.queue.items)
    ∙ to-none node (number + 1) (omega (arith, before)) plans

-- what the port of a number is offered is its queue
pub to-port : (number : ℕ) (plans : List PortPlan) (n : ℕ) (plan : PortPlan) → slice_get plans n ≡ Some plan →
    filter (is_to (number + n)) (offers_from number plans) ≡ map (offer_to (number + n)) plan.queue.items
to-port number [] n plan there = absurd (let e : None ≡ Some plan = there in cc)
to-port number (first ∷ plans) zero plan there =
    let same : first ≡ plan = (let e : Some first ≡ Some plan = there in cc) in
    let here : number + 0 ≡ number = omega arith in
    ap (λ k. filter (is_to k) (offers_from number (first ∷ plans))) here
    ∙ filter-append (is_to number) (map (offer_to number) first.queue.items) (offers_from (number + 1) plans)
    ∙ ap (λ l. l ++ filter (is_to number) (offers_from (number + 1) plans)) (to-itself number first.queue.items)
    ∙ ap (λ l. map (offer_to number) first.queue.items ++ l) (to-none number (number + 1) (omega arith) plans)
    ∙ append-nil (map (offer_to number) first.queue.items)
    ∙ ap (λ (p : PortPlan). map (offer_to number) p.queue.items) same
    ∙ ap (λ k. map (offer_to k) plan.queue.items) (sym here)
to-port number (first ∷ plans) (suc n) plan there =
    let more : (number + 1) + n ≡ number + suc n = omega arith in
    filter-append (is_to (number + suc n)) (map (offer_to number) first.queue.items) (offers_from (number + 1) plans)
    ∙ ap (λ l. l ++ filter (is_to (number + suc n)) (offers_from (number + 1) plans)) (to-another (number + suc n) number (λ e. omega (arith, e)) first.queue.items)
    ∙ ap (λ k. filter (is_to k) (offers_from (number + 1) plans)) (sym more)
    ∙ to-port (number + 1) plans n plan there
    ∙ ap (λ k. map (offer_to k) plan.queue.items) more

pub queue-frames : (node : ℕ) (queue : List TimedFrame) → frames_of (map timed (map (offer_to node) queue)) ≡ map (λ (x : TimedFrame). x.frame) queue
queue-frames node [] = refl
queue-frames node (x ∷ queue) = ap (λ fs. x.frame ∷ fs) (queue-frames node queue)

module _ (plans : List PortPlan) (n : ℕ) (plan : PortPlan) (there : slice_get plans n ≡ Some plan) where
  pub own-is : filter (is_to n) (offers_from 0 plans) ≡ map (offer_to n) plan.queue.items
  own-is =
      let same : 0 + n ≡ n = omega arith in
      ap (λ k. filter (is_to k) (offers_from 0 plans)) (sym same) ∙ to-port 0 plans n plan there ∙ ap (λ k. map (offer_to k) plan.queue.items) same

  -- the frames that the port is offered in the order of time, and those of its queue
  pub own-permuted : IsPermutation (frames_of (offered_to n (in_time (offers_from 0 plans)))) (frames_of_queue plan)
  own-permuted =
      subst (IsPermutation (frames_of (offered_to n (in_time (offers_from 0 plans)))))
      (ap (λ os. frames_of (map timed os)) own-is ∙ queue-frames n plan.queue.items)
      (IsPermutation-map (λ (x : TimedParts). x.frame) (offered_to n (in_time (offers_from 0 plans))) (map timed (filter (is_to n) (offers_from 0 plans)))
      (IsPermutation-map timed (filter (is_to n) (in_time (offers_from 0 plans))) (filter (is_to n) (offers_from 0 plans)) (in_time-filter (is_to n) (offers_from 0 plans))))

  -- the same number
  pub own-size : length (offered_to n (in_time (offers_from 0 plans))) ≡ length plan.queue.items
  own-size =
      sym (length-map (offered_to n (in_time (offers_from 0 plans))) (λ (x : TimedParts). x.frame))
      ∙ sym (length_permutation (frames_of (offered_to n (in_time (offers_from 0 plans)))) (frames_of_queue plan) own-permuted)
      ∙ length-map plan.queue.items (λ (x : TimedFrame). x.frame)

-- ---- all ports

all-frames : (number : ℕ) (plans : List PortPlan) → frames_of (map timed (offers_from number plans)) ≡ all_frames (map frames_of_queue plans)
all-frames number [] = refl
all-frames number (plan ∷ plans) =
    ap frames_of (map-append timed (map (offer_to number) plan.queue.items) (offers_from (number + 1) plans))
    ∙ map-append (λ (x : TimedParts). x.frame) (map timed (map (offer_to number) plan.queue.items)) (map timed (offers_from (number + 1) plans))
    ∙ ap (λ fs. fs ++ frames_of (map timed (offers_from (number + 1) plans))) (queue-frames number plan.queue.items)
    ∙ ap (λ fs. frames_of_queue plan ++ fs) (all-frames (number + 1) plans)

pub all-permuted : (plans : List PortPlan) → IsPermutation (frames_of (map timed (in_time (offers_from 0 plans)))) (all_frames (map frames_of_queue plans))
all-permuted plans =
    subst (IsPermutation (frames_of (map timed (in_time (offers_from 0 plans))))) (all-frames 0 plans)
    (IsPermutation-map (λ (x : TimedParts). x.frame) (map timed (in_time (offers_from 0 plans))) (map timed (offers_from 0 plans))
    (IsPermutation-map timed (in_time (offers_from 0 plans)) (offers_from 0 plans) (in_time-permuted (offers_from 0 plans))))

-- each offer names a port
pub offers-named : (number : ℕ) (plans : List PortPlan) (o : Offer) → Stands (offers_from number plans) o → o.node < number + length plans
offers-named number [] o there = absurd (stands-none o there)
offers-named number (plan ∷ plans) o there = elim (stands-either (map (offer_to number) plan.queue.items) (offers_from (number + 1) plans) o there) [
  | inl own ↦
      let made = map-stands (offer_to number) plan.queue.items o own in
      let node : number ≡ o.node = ap (λ (x : Offer). x.node) made.2 in omega arith
  | inr later ↦ let named = offers-named (number + 1) plans o later in omega (arith, named)
]

-- what holds of each frame of each port holds of each offer
pub each-offer : (P : ℕ → Parts → Type 0) (number : ℕ) (plans : List PortPlan) →
    ((plan : PortPlan) → Stands plans plan → (x : TimedFrame) → Stands plan.queue.items x → P x.time x.frame) → (o : Offer) → Stands (offers_from number plans) o → P o.time o.frame
each-offer P number [] each o there = absurd (stands-none o there)
each-offer P number (plan ∷ plans) each o there = elim (stands-either (map (offer_to number) plan.queue.items) (offers_from (number + 1) plans) o there) [
  | inl own ↦
      let made = map-stands (offer_to number) plan.queue.items o own in
      subst (λ (p : Offer). P p.time p.frame) made.2 (each plan (stands-here plan plans) made.0 made.1)
  | inr later ↦ each-offer P (number + 1) plans (λ other at. each other (stands-later plan plans other at)) o later
]

-- ---- offers that are listed one port after another
