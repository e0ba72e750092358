use Rattle.std.proofs.Common.{◌≡◌, ◌≤◌, ◌-◌, length, take, replicate}
use Rattle.can_texts.proofs.traces.idle.pairs_count.Given as goal

abbrev pub invariant-loop-count : goal.invariant-loop-count
invariant-loop-count l = record {
  within : l.count ≤ length l.bytes;
  row : take l.count l.bytes ≡ replicate l.count 49;
}

abbrev pub decreases-loop-count : goal.decreases-loop-count
decreases-loop-count l = length l.bytes - l.count
