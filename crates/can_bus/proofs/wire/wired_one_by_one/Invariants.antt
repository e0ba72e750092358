use Rattle.std.proofs.Common.{◌≡◌, drop, map}
use Rattle.can_node.specs.Ports.{port_drives}
use Rattle.can_bus.specs.Wired.{wired}
use Rattle.can_bus.proofs.wire.wired_one_by_one.Given as goal

abbrev pub invariant-loop-port : goal.invariant-loop-port
invariant-loop-port g l =
    wired (map port_drives (map g.P.Port.port (drop l.port-index l.ports))) ≡ wired (map port_drives (map g.P.Port.port l.ports))
