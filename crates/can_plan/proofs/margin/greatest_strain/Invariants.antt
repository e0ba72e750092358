use Rattle.std.proofs.Common.{◌-◌}
use Rattle.can_plan.proofs.Margins.{IsUpTo}
use Rattle.can_plan.proofs.margin.greatest_strain.Given as goal

abbrev pub invariant-loop-margin : goal.invariant-loop-margin
invariant-loop-margin l = IsUpTo l.strain l.rate l.limit l.messages l.deadlines l.margin l.last

abbrev pub decreases-loop-margin : goal.decreases-loop-margin
decreases-loop-margin l = l.last - l.margin.most
