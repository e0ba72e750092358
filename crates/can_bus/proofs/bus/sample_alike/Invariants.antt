use Rattle.std.proofs.Common.{◌≡◌, map, take}
use Rattle.can_node.specs.Ports.{port_drives, port_step}
use Rattle.can_bus.specs.Wired.{wired}
use Rattle.can_bus.proofs.PortLoops.{front_at}
use Rattle.can_bus.proofs.bus.sample_alike.Given as goal

abbrev pub invariant-loop-port : goal.invariant-loop-port
invariant-loop-port g l = record {
  ports : map g.P.Port.port l.ports ≡ front_at (λ n p. port_step p l.level) 0 l.port-index (map g.P.Port.port l.initial.ports);
  driven : l.driven ≡ wired (map port_drives (map g.P.Port.port (take l.port-index l.ports)));
}
