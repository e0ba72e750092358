use Rattle.std.proofs.Common.{◌≡◌, true, map, take}
use Rattle.can_bus.specs.Passing.{IsReceived, PassesByAll}
use Rattle.can_bus.proofs.bus.passing.is_received.Given as goal

-- the frame passes by the ports that were visited, and if this is claimed one of them receives it
abbrev pub invariant-loop-port : goal.invariant-loop-port
invariant-loop-port g l =
    PassesByAll l.frame (map g.P.Port.port (take l.port-index l.ports)) × (l.received ≡ true → IsReceived l.frame (map g.P.Port.port (take l.port-index l.ports)))
