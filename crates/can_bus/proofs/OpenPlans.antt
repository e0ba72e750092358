-- Ports that are made idle, and offers to them in order, of frames that all differ, are an open call.
use Rattle.std.specs.Prelude.{slice_get}
use Rattle.std.proofs.Common.{◌≡◌, ℕ, zero, suc, ◌+◌, ◌≤◌, Some, None, List, [], ◌∷◌, ◌++◌, All, length, map, refl, sym, ap, subst, ◌∙◌, arith, inl, inr}
use Rattle.std.proofs.lemmas.Bool.{cases_eq}
use Rattle.std.proofs.lemmas.List.{length-append, length-map}
use Rattle.std.proofs.lemmas.List.Elements.{All-tail}
use Rattle.can_node.specs.Ports.{PortState}
use Rattle.can_bus.specs.declared.offer.Offer.{Offer}
use Rattle.can_bus.specs.OpenBus.{IsOpenCall, IsOpenPlan}
use Rattle.can_bus.specs.Offers.{AreOffered}
use Rattle.can_bus.specs.Plans.{PlannedPort, planned, ready_port}
use Rattle.can_bus.specs.Quiet.{AreDifferent, queued}
use Rattle.can_bus.specs.Timed.{TimedParts, frames_of, all_offers, offered_first, offered_to, own_offers, timed}
use Rattle.can_bus.specs.Schedule.{schedule}
use Rattle.can_bus.proofs.CourseSchedules.{one-schedule}
use Rattle.can_bus.proofs.OpenAtOnce.{first-frames}
use Rattle.can_bus.proofs.PlayedRuns.{to-here, to-other}
use Rattle.can_bus.proofs.QuietPlans.{quiet-each, ready-filled, ready-queued}

-- ---- a call that is made

timed-frames : (offers : List Offer) → frames_of (map timed offers) ≡ map (λ (o : Offer). o.frame) offers
timed-frames [] = refl
timed-frames (offer ∷ offers) = ap (λ fs. offer.frame ∷ fs) (timed-frames offers)

-- no port is offered more than all
length-to : (node : ℕ) (offers : List Offer) → length (offered_to node offers) ≤ length offers
length-to node [] = omega arith
length-to node (offer ∷ offers) = elim (cases_eq offer.node node) [
  | inl here ↦ omega (arith, ap length (to-here offer offers node here), length-to node offers)
  | inr other ↦ omega (arith, ap length (to-other offer offers node other), length-to node offers)
]

-- nor has it more frames than all ports
pub own-room : (offers : List Offer) (size : ℕ) (plans : List PlannedPort) → length (planned plans) ≤ size → All (λ plan. size + length offers ≤ plan.queue_room) plans →
    (node n : ℕ) (p : PortState) → slice_get (map ready_port plans) n ≡ Some p → length (own_offers offers node p) ≤ p.queue_room
own-room offers size [] fits room node n p there = absurd (let h : None ≡ Some p = there in cc)
own-room offers size (plan ∷ plans) fits room node zero p there =
    let is : ready_port plan ≡ p = (let h : Some (ready_port plan) ≡ Some p = there in cc) in
    let filled = ready-filled plan in
    let queue : plan.frames ≡ p.queue = sym (ap (λ (q : PortState). q.queue) filled) ∙ ap (λ (q : PortState). q.queue) is in
    let rooms : plan.queue_room ≡ p.queue_room = sym (ap (λ (q : PortState). q.queue_room) filled) ∙ ap (λ (q : PortState). q.queue_room) is in
    let mine = length-append plan.frames (planned plans) in
    let both = length-append (offered_first p.queue) (offered_to node offers) in
    let waits = length-map p.queue (λ f. let x : TimedParts = record { time = 0; frame = f } in x) in
    omega (arith, fits, mine, ap length queue, rooms, both, waits, length-to node offers, room 0 plan (omega arith))
own-room offers size (plan ∷ plans) fits room node (suc n) p there =
    own-room offers size plans (omega (arith, fits, length-append plan.frames (planned plans))) (All-tail (λ plan. size + length offers ≤ plan.queue_room) plan plans room) node n p there

module _ (offers : List Offer) (plans : List PlannedPort) where
  abbrev ports : List PortState
  ports = map ready_port plans

  all-frames : frames_of (all_offers offers ports) ≡ planned plans ++ map (λ (o : Offer). o.frame) offers
  all-frames =
      first-frames (queued ports) (map timed offers) ∙ ap (λ fs. fs ++ frames_of (map timed offers)) (ready-queued plans) ∙ ap (λ fs. planned plans ++ fs) (timed-frames offers)

  pub all-size : length (all_offers offers ports) ≡ length (planned plans) + length offers
  all-size =
      sym (length-map (all_offers offers ports) (λ (x : TimedParts). x.frame)) ∙ ap length all-frames
      ∙ length-append (planned plans) (map (λ (o : Offer). o.frame) offers) ∙ ap (λ n. length (planned plans) + n) (length-map offers (λ (o : Offer). o.frame))

  pub open-made : IsOpenPlan offers plans → IsOpenCall offers ports (schedule (all_offers offers ports))
  open-made is = record {
    two = omega (arith, is.two, length-map plans ready_port);
    most = omega (arith, is.most, length-map plans ready_port);
    offered = subst (λ n. AreOffered n offers) (sym (length-map plans ready_port)) is.offered;
    quiet = quiet-each (length (all_offers offers ports)) plans (subst (λ k. All (λ plan. k ≤ plan.log_room) plans) (sym all-size) is.logs);
    room = λ n p there. own-room offers (length (planned plans)) plans (omega arith) is.queues n n p there;
    scheduled = one-schedule (all_offers offers ports) (subst AreDifferent (sym all-frames) is.different);
  }
