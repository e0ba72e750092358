use Rattle.std.proofs.Common.{◌≡◌, ◌++◌, drop}
use Rattle.can_trace.specs.ScenarioOffers.{offers_from}
use Rattle.can_trace.proofs.offers.all_offers.Given as goal

-- with what the ports from here on are offered, these are all offers
abbrev pub invariant-loop-node : goal.invariant-loop-node
invariant-loop-node l = l.offers.items ++ offers_from l.node (drop l.node l.plans) ≡ offers_from 0 l.plans
