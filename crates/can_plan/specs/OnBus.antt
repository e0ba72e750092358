-- What a bound promises of a bus: of the levels that a call records, and of the log of each port. (docs/PLANNING.md, "What a bound says")
use Rattle.std.specs.Prelude.{ℕ, ◌≡◌, ◌+◌, ◌≤◌, List, drop, filter, length, map, Some, slice_get, take}
use Rattle.can_frame.specs.declared.level.Level.{Level}
use Rattle.can_frame.specs.Parts.{Parts, IsFrame}
use Rattle.can_frame.specs.Arbitration.{arbitration_field}
use Rattle.can_wire.specs.Wire.{wire}
use Rattle.can_node.specs.declared.entry.Entry.{Entry}
use Rattle.can_node.specs.Ports.{IsPort, PortState, same_field}
use Rattle.can_terms.specs.declared.hit.Hit.{Hit}
use Rattle.can_bus.specs.declared.offer.Offer.{Offer}
use Rattle.can_bus.specs.Course.{Transmission}
use Rattle.can_bus.specs.CourseWaiting.{of_field}
use Rattle.can_bus.specs.Network.{IsNetworkCall}
use Rattle.can_bus.specs.Quiet.{holds}
use Rattle.can_bus.specs.Run.{BusState}
use Rattle.can_bus.specs.Timed.{frames_of, all_offers, own_offers}
use Rattle.can_plan.specs.declared.message.Message.{Message}
use Rattle.can_plan.specs.Messages.{AreHitAtMost, KeepTo, Release, offer_of}

-- A call on a network that keeps to its messages and to the error model: its frames are these releases. Those that wait at the start of
-- the call are offered at time 0.
pub record IsPlannedCall (most : ℕ → ℕ) (messages : List Message) (releases : List Release) (offers : List Offer)
    (hits : List Hit) (bus : BusState) (course : List Transmission) : Type 0 where
  pub call : IsNetworkCall offers hits bus course
  pub same : map offer_of releases ≡ all_offers offers bus.ports
  pub keep : KeepTo messages releases
  pub few : AreHitAtMost most course
  -- this holds for all ports and all offers of the code
  pub ports : (n : ℕ) (p : PortState) → slice_get bus.ports n ≡ Some p → IsPort p
  pub frames : (n : ℕ) (offer : Offer) → slice_get offers n ≡ Some offer → IsFrame offer.frame

-- The levels contain the wire of a release. It starts at its offer or later, and ends at most the bound after its release.
pub record StandsWithin (bound : ℕ) (r : Release) (level : ℕ → Level) : Type 0 where
  pub start : ℕ
  pub offered : r.offered ≤ start
  pub in_time : start + length (wire r.frame) ≤ r.released + bound
  pub levels : (k : ℕ) (l : Level) → slice_get (wire r.frame) k ≡ Some l → level (start + k) ≡ l

-- the entries of a log whose frames have the arbitration field of f
abbrev pub entries_of : Parts → List Entry → List Entry
entries_of f log = filter (λ entry. same_field f entry.frame) log

-- After its earlier entries, the log of a port has the frame of the release at this place: if n releases of its arbitration field come
-- before it, it is entry n of this field, counted from 0. It is marked as sent if the port had it to send.
abbrev pub LogNames : List Offer → List Release → ℕ → Release → ℕ → PortState → PortState → Type 0
LogNames offers releases place r node p q =
    slice_get (entries_of r.frame (drop (length p.log) q.log)) (length (of_field r.frame (take place (map offer_of releases))))
    ≡ Some (record { frame = r.frame; sent = holds (frames_of (own_offers offers node p)) r.frame })

-- what is claimed of each release of a message on such a call
abbrev pub OnPlannedCall : (ℕ → ℕ) → List Message → Message
    → (List Release → ℕ → Release → List Offer → List Hit → BusState → Type 0) → Type 0
OnPlannedCall most messages m Claim =
    (releases : List Release) (offers : List Offer) (hits : List Hit) (bus : BusState) (course : List Transmission) →
    IsPlannedCall most messages releases offers hits bus course → (place : ℕ) (r : Release)
    → slice_get releases place ≡ Some r → arbitration_field r.frame ≡ m.field →
    Claim releases place r offers hits bus
