-- The start of a bus with offers at run time: its ports after the offers of time 0, and the space that they have.
use Rattle.std.specs.Prelude.{filter, slice_get}
use Rattle.std.proofs.Common.{◌≡◌, ℕ, suc, ◌+◌, ◌≤◌, Some, List, [], ◌∷◌, ◌++◌, length, refl, sym, ap, subst, arith, inl, inr}
use Rattle.std.proofs.Math.Dec.{eqb}
use Rattle.std.proofs.lemmas.Bool.{cases_eq}
use Rattle.std.proofs.lemmas.List.{length-append, length-map}
use Rattle.can_frame.specs.Parts.{Parts, IsFrame}
use Rattle.can_node.specs.Ports.{PortState}
use Rattle.can_node.proofs.FramesWaiting.{AreFrames}
use Rattle.can_bus.specs.declared.offer.Offer.{Offer}
use Rattle.can_bus.specs.Timed.{TimedParts, frames_of, offered_by, offered_first, offered_to, own_offers, timed, QueuesHaveRoom}
use Rattle.can_bus.proofs.Members.{filter-stands, map-stands}
use Rattle.can_bus.proofs.OfferTimes.{AreInOrder, at-first, length-offered_by}
use Rattle.can_bus.proofs.PlayedRuns.{AreRoomy, HaveRoomNow, all_arrived, arriving, to-here, to-other}

-- it holds of each port and its number, if the first has this one
abbrev pub EachFrom : (ℕ → PortState → Type 0) → ℕ → List PortState → Type 0
EachFrom P node [] = Unit {0}
EachFrom P node (p ∷ ports) = P node p × EachFrom P (node + 1) ports

pub each-from : (P : ℕ → PortState → Type 0) (node : ℕ) (ports : List PortState) → ((n : ℕ) (p : PortState) → slice_get ports n ≡ Some p → P (node + n) p) → EachFrom P node ports
each-from P node [] each = tt
each-from P node (p ∷ ports) each = (
  subst (λ k. P k p) (let e : node + 0 ≡ node = omega arith in e) (each 0 p refl),
  each-from P (node + 1) ports (λ n q at. subst (λ k. P k q) (let e : node + suc n ≡ (node + 1) + n = omega arith in e) (each (suc n) q at)),
)

-- ---- the wire

-- there is space for what a port has and for all that is offered to it
abbrev HasRoom : List Offer → ℕ → PortState → Type 0
HasRoom offers node p = length (own_offers offers node p) ≤ p.queue_room

room-start : (offers : List Offer) (node : ℕ) (ports : List PortState) → EachFrom (HasRoom offers) node ports →
    HaveRoomNow offers 0 node ports × AreRoomy offers 0 node (all_arrived offers 0 node ports)
room-start offers node [] each = (tt, tt)
room-start offers node (p ∷ ports) each =
    let own = offered_to node offers in
    let rest = room-start offers (node + 1) ports each.1 in
    let both : length (own_offers offers node p) ≡ length (offered_first p.queue) + length own = length-append (offered_first p.queue) own in
    let waits : length (offered_first p.queue) ≡ length p.queue = length-map p.queue (λ f. let x : TimedParts = record { time = 0; frame = f } in x) in
    let now : length (arriving offers node 0) ≡ length (offered_by 0 own) = ap length (at-first own) in (
      (omega (arith, each.0, both, waits, now, length-offered_by 0 own), rest.0),
      (omega (arith, each.0, both, waits, now, length-append p.queue (arriving offers node 0)), rest.1),
    )

pub rooms : (offers : List Offer) (ports : List PortState) → QueuesHaveRoom offers ports → HaveRoomNow offers 0 0 ports × AreRoomy offers 0 0 (all_arrived offers 0 0 ports)
rooms offers ports room =
    room-start offers 0 ports (each-from (HasRoom offers) 0 ports (λ n p at. subst (λ k. HasRoom offers k p) (let e : n ≡ 0 + n = omega arith in e) (room n p at)))

-- ---- the offers to a port

-- they come in the order of time
pub order-of : (offers : List Offer) → ((m n : ℕ) (a b : Offer) → m ≤ n → slice_get offers m ≡ Some a → slice_get offers n ≡ Some b → a.time ≤ b.time) →
    (node : ℕ) → AreInOrder (offered_to node offers)
order-of [] rise node = tt
order-of (offer ∷ offers) rise node =
    let rest = order-of offers (λ m n a b within at to. rise (suc m) (suc n) a b (omega (arith, within)) at to) node in
    elim (cases_eq offer.node node) [
      | inl here ↦
          subst AreInOrder (sym (to-here offer offers node here)) (
            λ x there.
                let made = map-stands timed (filter (λ (o : Offer). eqb o.node node) offers) x there in
                let at = (filter-stands (λ (o : Offer). eqb o.node node) offers made.0 made.1).0 in
                let same : made.0.time ≡ x.time = ap (λ (y : TimedParts). y.time) made.2 in
                omega (arith, same, rise 0 (suc at.0) offer made.0 (omega arith) refl at.1),
            rest,
          )
      | inr other ↦ subst AreInOrder (sym (to-other offer offers node other)) rest
    ]

-- each is of a frame
abbrev pub OfFrames : List Offer → Type 0
OfFrames offers = (n : ℕ) (offer : Offer) → slice_get offers n ≡ Some offer → IsFrame offer.frame

pub frames-to : (offers : List Offer) → OfFrames offers → (node : ℕ) → AreFrames (frames_of (offered_to node offers))
frames-to [] each node = tt
frames-to (offer ∷ offers) each node =
    let rest = frames-to offers (λ n other at. each (suc n) other at) node in
    elim (cases_eq offer.node node) [
      | inl here ↦ subst (λ own. AreFrames (frames_of own)) (sym (to-here offer offers node here)) (each 0 offer refl, rest)
      | inr other ↦ subst (λ own. AreFrames (frames_of own)) (sym (to-other offer offers node other)) rest
    ]

pub frames-first : (queue : List Parts) (own : List TimedParts) → AreFrames queue → AreFrames (frames_of own) → AreFrames (frames_of (offered_first queue ++ own))
frames-first [] own first rest = rest
frames-first (f ∷ queue) own first rest = (first.0, frames-first queue own first.1 rest)
