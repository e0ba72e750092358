use Rattle.std.proofs.Common.{◌≤◌, ◌-◌, length, take}
use Rattle.can_texts.specs.Decoding.{AreSkipped}
use Rattle.can_texts.proofs.traces.skipped.row_count.Given as goal

abbrev pub invariant-loop-block : goal.invariant-loop-block
invariant-loop-block l = record {
  within : l.count ≤ length l.bytes;
  skipped : AreSkipped (take l.count l.bytes);
}

abbrev pub decreases-loop-block : goal.decreases-loop-block
decreases-loop-block l = length l.bytes - l.count

abbrev pub invariant-loop-count : goal.invariant-loop-count
invariant-loop-count l = record {
  within : l.count ≤ length l.bytes;
  skipped : AreSkipped (take l.count l.bytes);
}

abbrev pub decreases-loop-count : goal.decreases-loop-count
decreases-loop-count l = length l.bytes - l.count
