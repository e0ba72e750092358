use Rattle.std.proofs.Common.{ap, sym, ◌∙◌}
use Rattle.can_plan_text.specs.Details.{planned_at}
use Rattle.can_plan_text.proofs.left_text.told.Goals as goal

pub returns-in-Some : goal.returns-in-Some
returns-in-Some c = c.message_at.ensures ∙ sym (ap (planned_at c.args.planned.now) c.in-Some.is)

pub returns-in-None : goal.returns-in-None
returns-in-None c = sym (ap (planned_at c.args.planned.now) c.in-None.is)
