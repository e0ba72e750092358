use Rattle.std.proofs.Common.{◌≡◌, length, map}
use Rattle.can_node.specs.Ports.{port_drives}
use Rattle.can_bus.specs.Wired.{wired}
use Rattle.can_bus.proofs.wire.wired_level.Given as goal

abbrev pub invariant-loop-ahead : goal.invariant-loop-ahead
invariant-loop-ahead g l =
    wired (map port_drives (map g.P.Port.port l.ahead)) ≡ wired (map port_drives (map g.P.Port.port l.fn.ports))

abbrev pub decreases-loop-ahead : goal.decreases-loop-ahead
decreases-loop-ahead g l = length l.ahead
