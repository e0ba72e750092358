use Rattle.std.proofs.Common.{◌-◌, length}
use Rattle.can_code.specs.Unstuffing.{Unstuffs}
use Rattle.can_code.proofs.unstuffing.unstuff_levels.Given as goal

-- the levels so far were heard
abbrev pub invariant-loop-now : goal.invariant-loop-now
invariant-loop-now l = Unstuffs l.digits l.room l.fn.before l.now

abbrev pub decreases-loop-now : goal.decreases-loop-now
decreases-loop-now l = length l.digits - l.now.taken
