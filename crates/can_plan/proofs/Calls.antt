-- What a bound says of a call on a network.
use Rattle.std.specs.Prelude.{slice_get}
use Rattle.std.proofs.Common.{◌≡◌, ℕ, suc, ◌+◌, ◌≤◌, None, Some, List, [], ◌∷◌, length, map, refl, sym, ◌∙◌, ap, subst, inl, inr, arith}
use Rattle.can_frame.specs.Parts.{Parts, IsFrame}
use Rattle.can_wire.specs.Wire.{wire}
use Rattle.can_node.specs.declared.entry.Entry.{Entry}
use Rattle.can_node.specs.Ports.{IsPort, PortState}
use Rattle.can_terms.specs.declared.hit.Hit.{Hit}
use Rattle.can_bus.specs.declared.offer.Offer.{Offer}
use Rattle.can_bus.specs.Course.{IsCourse, Transmission, ended_by, lasting}
use Rattle.can_bus.specs.CourseWaiting.{AreInTime, IsSentBy}
use Rattle.can_bus.specs.Offers.{call_after, call_level}
use Rattle.can_bus.specs.Quiet.{AtEachNode, holds, queued}
use Rattle.can_bus.specs.Run.{BusState}
use Rattle.can_bus.specs.Timed.{TimedParts, frames_of, all_offers, offered_first, own_offers, timed}
use Rattle.can_bus.proofs.Contests.{AllPorts}
use Rattle.can_bus.proofs.CourseDelays.{offers-in_time, own}
use Rattle.can_bus.proofs.CourseWaits.{IsOwn, sends-made}
use Rattle.can_bus.proofs.Members.{map-stands, stands-either, stands-map}
use Rattle.can_bus.proofs.NetworkCalls.{network-has, network-track}
use Rattle.can_plan.specs.declared.message.Message.{Message}
use Rattle.can_plan.specs.Ends.{EndAlways}
use Rattle.can_plan.specs.Messages.{IsIn, IsOf, Release, offer_of}
use Rattle.can_plan.specs.OnBus.{IsPlannedCall, LogNames, StandsWithin}
use Rattle.can_bus.proofs.CourseTracks.{line-wire}
use Rattle.can_plan.proofs.Logs.{ended-turn, named}

all-ports : (ports : List PortState) → ((n : ℕ) (p : PortState) → slice_get ports n ≡ Some p → IsPort p) → AllPorts IsPort ports
all-ports [] each = tt
all-ports (p ∷ ports) each = (each 0 p refl, all-ports ports (λ n q at. each (suc n) q at))

queued-frames : (ports : List PortState) → AllPorts IsPort ports → (f : Parts) → IsIn (queued ports) f → IsFrame f
queued-frames [] each f there = absurd (let h : None ≡ Some f = there.1 in cc)
queued-frames (p ∷ ports) each f there = elim (stands-either p.queue (queued ports) f there) [
  | inl here ↦ each.0.queued here.0 f here.1
  | inr later ↦ queued-frames ports each.1 f later
]

module _ (most : ℕ → ℕ) (messages : List Message) (releases : List Release) (offers : List Offer) (hits : List Hit) (bus : BusState) (course : List Transmission)
    (is : IsPlannedCall most messages releases offers hits bus course) where
  valid : AllPorts IsPort bus.ports
  valid = all-ports bus.ports is.ports

  made : IsCourse hits 0 0 (map offer_of releases) course
  made = subst (λ l. IsCourse hits 0 0 l course) (sym is.same) is.call.is_course

  rise : AreInTime (map offer_of releases)
  rise = subst AreInTime (sym is.same) (offers-in_time offers bus.ports is.call.offered)

  frames : (r : Release) → IsIn releases r → IsFrame r.frame
  frames r there =
      let offer : IsIn (all_offers offers bus.ports) (offer_of r) = subst (λ l. IsIn l (offer_of r)) is.same (stands-map offer_of releases r there) in
      elim (stands-either (offered_first (queued bus.ports)) (map timed offers) (offer_of r) offer) [
        | inl waits ↦
            let from = map-stands (λ f. let x : TimedParts = record { time = 0; frame = f } in x) (queued bus.ports) (offer_of r) waits in
            subst IsFrame (ap (λ (x : TimedParts). x.frame) from.2) (queued-frames bus.ports valid from.0 from.1)
        | inr comes ↦
            let from = map-stands timed offers (offer_of r) comes in
            subst IsFrame (ap (λ (x : TimedParts). x.frame) from.2) (is.frames from.1.0 from.0 from.1.1)
      ]

  module _ (m : Message) (bound : ℕ) (ends : EndAlways most messages m bound) (place : ℕ) (r : Release) (at : slice_get releases place ≡ Some r) (of : IsOf m r) where
    there : (s : Transmission) × IsSentBy (map offer_of releases) course place (offer_of r) s × (s.time + length (wire r.frame) ≤ r.released + bound)
    there = ends releases hits course made frames rise is.keep is.few place r at of

    sends : IsOwn (offer_of r) there.0
    sends = own hits (map offer_of releases) course made rise place (offer_of r) there.0 there.1

    pub stands-within : StandsWithin bound r (λ t. call_level offers hits t bus)
    stands-within = record {
      start = there.0.time;
      offered = sends.in_time;
      in_time = there.2;
      levels = λ k l on. network-track offers hits course bus valid is.frames is.call (there.0.time + k)
          ∙ line-wire made there.0 (sends-made r.frame course _ there.0 there.1.is_attempt).0 sends.unhit k l (subst (λ f. slice_get (wire f) k ≡ Some l) (sym sends.frame) on);
    }

    pub log-names : (bits : ℕ) → r.released + bound ≤ bits → AtEachNode (LogNames offers releases place r) bus.ports (call_after offers hits bits bus).bus.ports
    log-names bits long node p q before after =
        let has = network-has offers hits course bus valid is.frames is.call bits (call_after offers hits bits bus).bus refl node p q before after in
        let lasts : length (wire there.0.frame) ≡ length (wire r.frame) = ap (λ f. length (wire f)) sends.frame in
        let late = there.2 in
        let ended : there.0.time + lasting there.0.frame there.0.hit ≤ bits = subst (λ h. there.0.time + lasting there.0.frame h ≤ bits) (sym sends.unhit) (omega (arith, lasts, late, long)) in
        let mine = frames_of (own_offers offers node p) in
        let entry : Parts → Entry = λ f. record { frame = f; sent = holds mine f } in
        named r.frame p.log q.log mine (ended_by bits course) _ there.0 has (ended-turn r.frame bits made _ there.0 there.1.is_attempt ended)
        ∙ ap (λ f. Some (entry f)) sends.frame
