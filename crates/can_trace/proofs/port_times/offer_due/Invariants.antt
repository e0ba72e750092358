use Rattle.std.proofs.Common.{◌≡◌, ◌-◌, drop, length}
use Rattle.can_bus.proofs.OfferLemmas.{IsWithin}
use Rattle.can_trace.specs.PortTimes.{own_made}
use Rattle.can_trace.proofs.port_times.offer_due.Given as goal

abbrev pub invariant-loop-place : goal.invariant-loop-place
invariant-loop-place g l = record {
  within : IsWithin l.offers l.place l.time;
  port : own_made l.node (drop l.place l.offers) l.time (g.P.Port.port l.port) ≡ own_made l.node l.offers l.time (g.P.Port.port l.fn.port);
}

abbrev pub decreases-loop-place : goal.decreases-loop-place
decreases-loop-place g l = length l.offers - l.place
