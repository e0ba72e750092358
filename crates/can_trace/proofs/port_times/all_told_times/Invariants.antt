use Rattle.can_trace.specs.PortTimes.{AreFirstTold}
use Rattle.can_trace.proofs.port_times.all_told_times.Given as goal

abbrev pub invariant-loop-node : goal.invariant-loop-node
invariant-loop-node l = AreFirstTold l.scenario l.node l.times.items
