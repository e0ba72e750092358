use Rattle.std.proofs.Common.{◌≡◌, drop}
use Rattle.can_node.specs.Ports.{with_offer}
use Rattle.can_conform.specs.Runs.{all_handed}
use Rattle.can_conform.proofs.bench.offer_all.Given as goal

-- passing on the remaining frames now leads to the same port as passing on all of them at the start
abbrev pub invariant-loop-offer : goal.invariant-loop-offer
invariant-loop-offer g l = all_handed with_offer (drop l.offer-index l.offers) l.time (g.P.Port.port l.port) ≡ all_handed with_offer l.offers l.time (g.P.Port.port l.fn.port)
