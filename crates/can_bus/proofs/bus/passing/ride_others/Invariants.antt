use Rattle.std.proofs.Common.{◌≡◌, map}
use Rattle.can_node.specs.Ports.{port_run}
use Rattle.can_bus.proofs.PortLoops.{front_at}
use Rattle.can_bus.proofs.bus.passing.ride_others.Given as goal

abbrev pub invariant-loop-port : goal.invariant-loop-port
invariant-loop-port g l = map g.P.Port.port l.ports ≡ front_at (λ n p. port_run p l.levels) 0 l.port-index (map g.P.Port.port l.initial.ports)
