use Rattle.std.proofs.Common.{◌≡◌, ◌-◌, length}
use Rattle.can_texts.specs.Decoding.{Gathers}
use Rattle.can_texts.proofs.traces.gathered.gather.Given as goal

abbrev pub invariant-loop-now : goal.invariant-loop-now
invariant-loop-now l = record {
  gathers : Gathers l.bytes l.now l.digits;
  long : length l.digits ≡ 512;
}

abbrev pub decreases-loop-now : goal.decreases-loop-now
decreases-loop-now l = length l.bytes - l.now.taken
