use Rattle.std.proofs.Common.{◌≡◌, ◌*◌, drop}
use Rattle.can_bus.specs.Wired.{wired}
use Rattle.can_bus.proofs.wire.wired.Given as goal

abbrev pub invariant-loop-vector : goal.invariant-loop-vector
invariant-loop-vector l = wired (drop (l.vector-index * 32) l.levels) ≡ wired l.levels
