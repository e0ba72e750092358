use Rattle.std.proofs.Common.{◌≡◌, drop}
use Rattle.can_bus.specs.Passing.{rest_run}
use Rattle.can_bus.proofs.bus.passing.rest_behind.Given as goal

-- the number of recessive levels last after the levels that are left is that after all of them
abbrev pub invariant-loop-level : goal.invariant-loop-level
invariant-loop-level l = rest_run l.last (drop l.level-index l.levels) ≡ rest_run l.rest l.levels
