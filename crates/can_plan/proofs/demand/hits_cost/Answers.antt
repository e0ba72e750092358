use Rattle.std.proofs.Common.{rules}
use Rattle.can_plan.proofs.demand.hits_cost.Goals as goal

pub returns-clause-value : goal.returns-clause-value
returns-clause-value c = search rules
