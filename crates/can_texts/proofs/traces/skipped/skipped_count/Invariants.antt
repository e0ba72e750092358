use Rattle.std.proofs.Common.{◌≤◌, ◌-◌, length, take}
use Rattle.can_texts.specs.Decoding.{AreSkipped}
use Rattle.can_texts.proofs.traces.skipped.skipped_count.Given as goal

abbrev pub invariant-loop-count : goal.invariant-loop-count
invariant-loop-count l = record {
  within : l.count ≤ length l.bytes;
  skipped : AreSkipped (take l.count l.bytes);
}

abbrev pub decreases-loop-count : goal.decreases-loop-count
decreases-loop-count l = length l.bytes - l.count
