-- The offers of a scenario: which frame is offered to which port at which time, and in which order. (docs/FORMATS.md, "`canbit
-- run`"; docs/BUS.md, "Frames offered while the bus runs")
use Rattle.std.specs.Prelude.{ℕ, ◌≡◌, ◌+◌, ◌==◌, nat_le, if◌then◌else◌, List, [], ◌∷◌, ◌++◌, filter, map}
use Rattle.std.specs.List.Sorted.{IsNonDecreasingBy}
use Rattle.can_bus.specs.declared.offer.Offer.{Offer}
use Rattle.can_scenario_text.specs.declared.scenario.Scenario.{Scenario}
use Rattle.can_scenario_text.specs.declared.scenario.PortPlan.{PortPlan}
use Rattle.can_scenario_text.specs.declared.scenario.TimedFrame.{TimedFrame}

-- a frame is offered to the port with this number
abbrev pub offer_to : ℕ → TimedFrame → Offer
offer_to number timed = record { time = timed.time; node = number; frame = timed.frame }

-- the offers to all ports, the first of which has this number: in the order of the ports, and for one port in the order of its
-- queue
abbrev pub offers_from : ℕ → List PortPlan → List Offer
offers_from number [] = []
offers_from number (plan ∷ plans) = map (offer_to number) plan.queue.items ++ offers_from (number + 1) plans

-- the offers with time t
abbrev pub offers_at : ℕ → List Offer → List Offer
offers_at t offers = filter (λ offer. offer.time == t) offers

-- The same offers in the order of time; those with the same time keep their order.
pub record IsInTimeOrder (offers ordered : List Offer) : Type 0 where
  pub rising : IsNonDecreasingBy (λ offer. offer.time) ordered
  pub same : (t : ℕ) → offers_at t ordered ≡ offers_at t offers

-- This order, computed: an offer goes before all that are not earlier.
abbrev pub put_in_time : Offer → List Offer → List Offer
put_in_time offer [] = offer ∷ []
put_in_time offer (next ∷ offers) =
    if nat_le offer.time next.time then offer ∷ next ∷ offers
    else next ∷ put_in_time offer offers

-- the offers in the order of time
unfoldable pub in_time : List Offer → List Offer
in_time [] = []
in_time (offer ∷ offers) = put_in_time offer (in_time offers)

-- the offers of a scenario, in the order in which they are made: by time, then by port, then by place in the queue
abbrev pub scenario_offers : Scenario → List Offer
scenario_offers s = in_time (offers_from 0 s.ports.items)
