-- How a network is made. (docs/BUS.md, "Networks")
use Rattle.std.specs.Prelude.{ℕ, ◌≡◌, ◌+◌, ◌<◌, ◌≤◌, ◌⊎◌, List, [], ◌∷◌, All, length, map, slice_get, Some}
use Rattle.can_frame.specs.Parts.{Parts}
use Rattle.can_node.specs.Ports.{PortState}
use Rattle.can_terms.specs.declared.hit.Hit.{Hit}
use Rattle.can_terms.specs.declared.hit.Hit.TheVariants.{In}
use Rattle.can_bus.specs.declared.offer.Offer.{Offer}
use Rattle.can_bus.specs.Course.{HitInWindows, Transmission, course_of}
use Rattle.can_bus.specs.Attempts.{AreInAttempts, AreApart, IsInWindow}
use Rattle.can_bus.specs.Network.{CourseIsBorne, FieldsAreOwned}
use Rattle.can_bus.specs.Offers.{AreOffered}
use Rattle.can_bus.specs.Timed.{all_offers}
use Rattle.can_bus.specs.Plans.{PlannedPort, planned, ready_port}

-- the computed course of all frames at these ports
abbrev pub network_course : List Offer → List Hit → List PortState → List Transmission
network_course offers hits ports = course_of hits (all_offers offers ports)

-- The plan of a network. It has two to 64 ports, with capacity in each queue and each log for all frames, and offers in order, each to a
-- port of the bus. No two ports have the same arbitration field. At most one hit is in an attempt, in the window of the frame that it
-- sends. There are at most fifteen hits, or all ports stay error active.
pub record IsNetworkPlan (offers : List Offer) (hits : List Hit) (plans : List PlannedPort) : Type 0 where
  pub two : 2 ≤ length plans
  pub most : length plans ≤ 64
  pub offered : AreOffered (length plans) offers
  pub queues : All (λ plan. length (planned plans) + length offers ≤ plan.queue_room) plans
  pub logs : All (λ plan. length (planned plans) + length offers ≤ plan.log_room) plans
  pub owned : FieldsAreOwned offers (map ready_port plans)
  pub within : AreInAttempts hits
  pub apart : AreApart 1 hits
  pub windows : HitInWindows (network_course offers hits (map ready_port plans))
  pub borne : (length hits ≤ 15) ⊎ CourseIsBorne offers (map ready_port plans) (network_course offers hits (map ready_port plans))

-- A frame that its port sends again and again.

-- the frame is offered to port 0 at each of these times
abbrev pub offered_again : Parts → List ℕ → List Offer
offered_again f times = map (λ t. let x : Offer = record { time = t; node = 0; frame = f } in x) times

-- no time is earlier than the one before it
abbrev pub AreNoEarlier : List ℕ → Type 0
AreNoEarlier times = (m n : ℕ) (s t : ℕ) → m < n → slice_get times m ≡ Some s → slice_get times n ≡ Some t → s ≤ t

-- two ports without frames, with this capacity
abbrev pub two_ports : ℕ → List PlannedPort
two_ports room =
    let plan : PlannedPort = record { queue_room = room; log_room = room; frames = [] } in
    plan ∷ plan ∷ []

-- each hit is in the window of this frame
abbrev pub AllInWindow : Parts → List Hit → Type 0
AllInWindow f hits = (n attempt offset : ℕ) → slice_get hits n ≡ Some (In attempt offset) → IsInWindow f offset
