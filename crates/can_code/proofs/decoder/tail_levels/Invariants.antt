use Rattle.std.proofs.Common.{◌≤◌, ◌<◌, ◌-◌, ◌+◌, length, take}
use Rattle.can_code.specs.Digits.{HearsTail}
use Rattle.can_code.proofs.decoder.tail_levels.Given as goal

-- the levels so far are those of a tail
abbrev pub invariant-loop-now : goal.invariant-loop-now
invariant-loop-now l = record {
  within : l.now.taken ≤ length l.digits;
  few : l.behind + l.now.taken < 10;
  tail : HearsTail l.behind l.acked (l.behind + l.now.taken) l.now.acked (take l.now.taken l.digits);
}

abbrev pub decreases-loop-now : goal.decreases-loop-now
decreases-loop-now l = length l.digits - l.now.taken
