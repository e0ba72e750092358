use Rattle.std.proofs.Common.{◌≡◌, take}
use Rattle.can_trace.proofs.port_times.copied.Given as goal

abbrev pub invariant-loop-level : goal.invariant-loop-level
invariant-loop-level l = l.copy.items ≡ take l.level-index l.levels
