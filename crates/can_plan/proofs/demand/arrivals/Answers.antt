use Rattle.std.proofs.Common.{rules}
use Rattle.can_plan.proofs.demand.arrivals.Goals as goal

pub returns-clause-value : goal.returns-clause-value
returns-clause-value c = search rules
