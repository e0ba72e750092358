use Rattle.std.proofs.Common.{◌≤◌, ◌-◌, length, take}
use Rattle.can_texts.specs.Decoding.{Searches}
use Rattle.can_texts.proofs.traces.searching.search.Given as goal

-- the search went on with the levels so far
abbrev pub invariant-loop-now : goal.invariant-loop-now
invariant-loop-now l = record {
  within : l.now.taken ≤ length l.digits;
  searched : Searches l.fn.row (take l.now.taken l.digits) l.now.row;
}

abbrev pub decreases-loop-now : goal.decreases-loop-now
decreases-loop-now l = length l.digits - l.now.taken
