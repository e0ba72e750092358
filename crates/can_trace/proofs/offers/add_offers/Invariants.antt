use Rattle.std.proofs.Common.{◌≡◌, ◌++◌, map, take}
use Rattle.can_trace.specs.ScenarioOffers.{offer_to}
use Rattle.can_trace.proofs.offers.add_offers.Given as goal

abbrev pub invariant-loop-timed : goal.invariant-loop-timed
invariant-loop-timed l = l.offers.items ≡ l.initial.offers.items ++ map (offer_to l.node) (take l.timed-index l.queue)
