use Rattle.std.proofs.Common.{◌≡◌, length, take}
use Rattle.can_trace.specs.PortTimes.{AreSeen}
use Rattle.can_trace.proofs.port_times.seen_levels.Given as goal

abbrev pub invariant-loop-hit : goal.invariant-loop-hit
invariant-loop-hit l = record {
  each : length l.seen.items ≡ length l.levels;
  seen : AreSeen (take l.hit-index l.hits) l.node l.levels l.seen.items;
}
