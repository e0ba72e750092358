-- An open bus: a quiet bus with offers at run time. Its frames are sent according to their schedule. (docs/BUS.md, "The schedule"; Bosch
-- CAN 2.0 part B, sections 2 and 3.2.5)
use Rattle.std.specs.Prelude.{ℕ, ◌≡◌, ◌+◌, ◌≤◌, List, ◌++◌, All, length, map, slice_get, Some}
use Rattle.can_wire.specs.Wire.{wire}
use Rattle.can_node.specs.Ports.{PortState}
use Rattle.can_bus.specs.declared.offer.Offer.{Offer}
use Rattle.can_bus.specs.Offers.{AreOffered, all_made}
use Rattle.can_bus.specs.Plans.{PlannedPort, planned}
use Rattle.can_bus.specs.Quiet.{AreDifferent, IsPrefixOf, IsQuietPort, marked}
use Rattle.can_bus.specs.Run.{BusState}
use Rattle.can_bus.specs.Schedule.{IsScheduleOf}
use Rattle.can_bus.specs.Timed.{Lists, QueuesHaveRoom, TimedParts, all_offers, frames_of, own_offers}

-- What is required of a bus, of the frames that are offered to it, and of their schedule.
pub record IsOpenCall (offers : List Offer) (ports : List PortState) (starts : List TimedParts) : Type 0 where
  pub two : 2 ≤ length ports
  pub most : length ports ≤ 64
  -- offers are in order of time, each to a port of the bus
  pub offered : AreOffered (length ports) offers
  -- each port is idle, with both counters 0 and no overload frame requested; its log is empty, with capacity for all frames
  pub quiet : (n : ℕ) (p : PortState) → slice_get ports n ≡ Some p → IsQuietPort (length (all_offers offers ports)) p
  pub room : QueuesHaveRoom offers ports
  -- the schedule of all frames, no two of which have the same arbitration field
  pub scheduled : IsScheduleOf (all_offers offers ports) starts

-- what is claimed of such a call, with the schedule of all frames
abbrev pub OnOpenCall : List Offer → List PortState → (List TimedParts → Type 0) → Type 0
OnOpenCall offers ports Claim = (starts : List TimedParts) → IsOpenCall offers ports starts → Claim starts

-- the wires of all starts have ended by this time
abbrev pub AreOver : List TimedParts → ℕ → Type 0
AreOver starts t = (s : TimedParts) → Lists starts s → s.time + length (wire s.frame) ≤ t

-- the log is a prefix of the frames that start, each marked as sent if the port had it to send
abbrev pub OpenLogBegins : List Offer → List TimedParts → ℕ → PortState → PortState → Type 0
OpenLogBegins offers starts node p q = IsPrefixOf q.log (marked (frames_of (own_offers offers node p)) (frames_of starts))

-- the log has all of them
abbrev pub OpenLogWhole : List Offer → List TimedParts → ℕ → PortState → PortState → Type 0
OpenLogWhole offers starts node p q = q.log ≡ marked (frames_of (own_offers offers node p)) (frames_of starts)

-- the bus after the offers of time 0
abbrev pub with_first : List Offer → BusState → BusState
with_first offers bus = record bus { ports = all_made offers 0 bus.ports }

-- what waits at the port with this number is all that it has to send
abbrev pub WaitsAt : List Offer → ℕ → PortState → PortState → Type 0
WaitsAt offers node p q = q.queue ≡ frames_of (own_offers offers node p)

-- The plan of an open bus. It has two to 64 ports, and offers in order, each to a port of the bus. No two frames have the same
-- arbitration field. Each queue and each log has capacity for all frames.
pub record IsOpenPlan (offers : List Offer) (plans : List PlannedPort) : Type 0 where
  pub two : 2 ≤ length plans
  pub most : length plans ≤ 64
  pub offered : AreOffered (length plans) offers
  pub different : AreDifferent (planned plans ++ map (λ offer. offer.frame) offers)
  pub queues : All (λ plan. length (planned plans) + length offers ≤ plan.queue_room) plans
  pub logs : All (λ plan. length (planned plans) + length offers ≤ plan.log_room) plans
