use Rattle.std.proofs.Common.{rules}
use Rattle.can_page.proofs.plans.plan_onto.Goals as goal

pub returns-in-Ok-write_all-clause-answer : goal.returns-in-Ok-write_all-clause-answer
returns-in-Ok-write_all-clause-answer g c = search rules
