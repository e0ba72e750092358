use Rattle.std.proofs.Common.{◌+◌, ◌-◌, ◌≤◌, length, take}
use Rattle.can_wire.specs.StuffSteps.{LaysOut}
use Rattle.can_wire.proofs.spelling.lay_out.Given as goal

-- the levels so far are laid out
abbrev pub invariant-loop-place : goal.invariant-loop-place
invariant-loop-place l = record {
  within : l.place ≤ length l.unstuffed;
  laid : LaysOut l.levels l.stuffing (take l.place l.unstuffed);
}

abbrev pub decreases-loop-place : goal.decreases-loop-place
decreases-loop-place l = l.count + 1 - l.place

-- and then those one by one
abbrev pub invariant-loop-place-2 : goal.invariant-loop-place-2
invariant-loop-place-2 l = record {
  within : l.place ≤ length l.unstuffed;
  laid : LaysOut l.levels l.stuffing (take l.place l.unstuffed);
}

abbrev pub decreases-loop-place-2 : goal.decreases-loop-place-2
decreases-loop-place-2 l = l.count - l.place
