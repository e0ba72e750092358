use Rattle.std.proofs.Common.{◌≡◌, drop}
use Rattle.can_node.specs.Ports.{port_run}
use Rattle.can_node.proofs.port.Port.turn_through.Given as goal

-- the levels that are left lead from the present port to the same state as all levels from the first
abbrev pub invariant-loop-level : goal.invariant-loop-level
invariant-loop-level g l = port_run (g.Self.Port.port l.self) (drop l.level-index l.levels) ≡ port_run (g.Self.Port.port l.fn.self) l.levels
