use Rattle.std.proofs.Common.{◌≤◌}
use Rattle.can_plan.specs.Analysis.{arrivals as arrivals_of}
use Rattle.can_plan.proofs.Bounds.{IsSoFar, MayBegin}
use Rattle.can_plan.proofs.response.latest_end.Given as goal

abbrev pub invariant-loop-q : goal.invariant-loop-q
invariant-loop-q l = IsSoFar l.rate l.fn.blocking l.widest l.message l.higher l.limit (arrivals_of l.message l.long) l.bound l.q
    × MayBegin l.rate l.fn.blocking l.widest l.message l.higher l.q l.last × (l.last ≤ l.limit)
