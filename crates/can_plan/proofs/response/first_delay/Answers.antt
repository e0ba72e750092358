use Rattle.std.proofs.Common.{rules}
use Rattle.can_plan.proofs.response.first_delay.Goals as goal

pub returns-then-longest-saturating_add : goal.returns-then-longest-saturating_add
returns-then-longest-saturating_add c = search rules
