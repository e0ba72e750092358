use Rattle.std.proofs.Common.{◌≡◌, drop}
use Rattle.can_bus.specs.Wired.{wired}
use Rattle.can_bus.proofs.wire.wired_plainly.Given as goal

abbrev pub invariant-loop-level : goal.invariant-loop-level
invariant-loop-level l = wired (drop l.level-index l.levels) ≡ wired l.levels
