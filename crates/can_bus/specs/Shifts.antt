-- Offers, hits and attempts, d bit times later. (docs/BUS.md, "The course")
use Rattle.std.specs.Prelude.{ℕ, ◌≡◌, ◌+◌, List, map, slice_get, Some}
use Rattle.can_frame.specs.IdleRow.{idle_row}
use Rattle.can_node.specs.Ports.{PortState, IsAtRest}
use Rattle.can_terms.specs.declared.hit.Hit.{Hit}
use Rattle.can_terms.specs.declared.hit.Hit.TheVariants.{At, In, View}
use Rattle.can_bus.specs.declared.offer.Offer.{Offer}
use Rattle.can_bus.specs.Course.{Transmission}
use Rattle.can_bus.specs.Run.{BusState}
use Rattle.can_bus.specs.Timed.{TimedParts}

-- a frame that is offered d bit times later
abbrev pub frame_later : ℕ → TimedParts → TimedParts
frame_later d x = record { time = d + x.time; frame = x.frame }

abbrev pub frames_later : ℕ → List TimedParts → List TimedParts
frames_later d timed = map (frame_later d) timed

-- an attempt that starts d bit times later; the same of its levels is hit, if one is
abbrev pub attempt_later : ℕ → Transmission → Transmission
attempt_later d s = record { time = d + s.time; frame = s.frame; hit = s.hit }

abbrev pub attempts_later : ℕ → List Transmission → List Transmission
attempts_later d course = map (attempt_later d) course

-- an offer to a port d bit times later
abbrev pub offer_later : ℕ → Offer → Offer
offer_later d offer = record { time = d + offer.time; node = offer.node; frame = offer.frame }

abbrev pub offers_later : ℕ → List Offer → List Offer
offers_later d offers = map (offer_later d) offers

-- a hit d bit times later; an `In` has no time of its own
abbrev pub hit_later : ℕ → Hit → Hit
hit_later d (At time) = At (d + time)
hit_later d (In attempt offset) = In attempt offset
hit_later d (View time node) = View (d + time) node

abbrev pub hits_later : ℕ → List Hit → List Hit
hits_later d hits = map (hit_later d) hits

-- A bus at rest: eleven recessive levels were recorded last, each controller is idle, and no frame waits. (3.2.5)
pub record IsBusAtRest (bus : BusState) : Type 0 where
  pub rest : bus.rest ≡ idle_row
  pub ports : (n : ℕ) (p : PortState) → slice_get bus.ports n ≡ Some p → IsAtRest p
