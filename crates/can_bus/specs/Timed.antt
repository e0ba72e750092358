-- Frames with bit times: offers or starts. (docs/BUS.md, "The schedule")
use Rattle.std.specs.Prelude.{ℕ, ◌≡◌, ◌≤◌, ◌==◌, min, nat_le, if◌then◌else◌, List, [], ◌∷◌, ◌++◌, length, map, filter, fold, slice_get, Some}
use Rattle.can_frame.specs.Parts.{Parts}
use Rattle.can_node.specs.Ports.{PortState, same_field}
use Rattle.can_bus.specs.declared.offer.Offer.{Offer}
use Rattle.can_bus.specs.Quiet.{queued}

-- a frame with a bit time: when it is offered, or when it starts
pub record TimedParts : Type 0 where
  pub time : ℕ
  pub frame : Parts

-- the frames of offers, or of starts
abbrev pub frames_of : List TimedParts → List Parts
frames_of timed = map (λ x. x.frame) timed

-- it is in the list
abbrev pub Lists : List TimedParts → TimedParts → Type 0
Lists offers x = (n : ℕ) × (slice_get offers n ≡ Some x)

-- all are offered at time 0
abbrev pub AreAtOnce : List TimedParts → Type 0
AreAtOnce offers = (x : TimedParts) → Lists offers x → x.time ≡ 0

-- the earliest time of these offers
abbrev pub earliest : TimedParts → List TimedParts → ℕ
earliest x others = fold (λ t y. min t y.time) x.time others

-- the frames that are offered by this time
abbrev pub offered_by : ℕ → List TimedParts → List Parts
offered_by t offers = frames_of (filter (λ x. nat_le x.time t) offers)

-- the offers without the first with this arbitration field
abbrev pub without_offer : Parts → List TimedParts → List TimedParts
without_offer f [] = []
without_offer f (x ∷ offers) = if same_field f x.frame then offers else x ∷ without_offer f offers

-- What a call offers.

-- frames that wait at the start of the call: each counts as an offer at time 0
abbrev pub offered_first : List Parts → List TimedParts
offered_first queue = map (λ f. record { time = 0; frame = f }) queue

-- an offer without its port
abbrev pub timed : Offer → TimedParts
timed offer = record { time = offer.time; frame = offer.frame }

-- what is offered to the port with this number
abbrev pub offered_to : ℕ → List Offer → List TimedParts
offered_to node offers = map timed (filter (λ offer. offer.node == node) offers)

-- what the port with this number has to send, in this order
abbrev pub own_offers : List Offer → ℕ → PortState → List TimedParts
own_offers offers node p = offered_first p.queue ++ offered_to node offers

-- all frames: those that wait at the ports at the start of the call, and those that are offered
abbrev pub all_offers : List Offer → List PortState → List TimedParts
all_offers offers ports = offered_first (queued ports) ++ map timed offers

-- each queue has capacity for what it holds and what is offered to its port
abbrev pub QueuesHaveRoom : List Offer → List PortState → Type 0
QueuesHaveRoom offers ports = (n : ℕ) (p : PortState) → slice_get ports n ≡ Some p → length (own_offers offers n p) ≤ p.queue_room
