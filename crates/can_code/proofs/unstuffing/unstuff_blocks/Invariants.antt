use Rattle.std.proofs.Common.{◌-◌, ◌<◌, length}
use Rattle.can_code.specs.Steps.{run_at}
use Rattle.can_code.specs.Unstuffing.{Unstuffs, as_run}
use Rattle.can_code.proofs.unstuffing.unstuff_blocks.Given as goal

-- the levels so far were heard
abbrev pub invariant-loop-now : goal.invariant-loop-now
invariant-loop-now l = record {
  row : l.now.row < 10;
  taken : Unstuffs l.digits l.room (run_at l.fn.row) (as_run l.now);
}

abbrev pub decreases-loop-now : goal.decreases-loop-now
decreases-loop-now l = length l.digits - l.now.taken
