use Rattle.can_plan_text.proofs.WorstCases.{of-none, of-some}
use Rattle.can_plan_text.proofs.worst.push_blocker.Goals as goal

pub returns-in_default : goal.returns-in_default
returns-in_default c = of-none c.args.blocker.now c.args.sequences.now.items c.in_default.is

pub returns : goal.returns
returns c =
    of-some c.args.blocker.now c.args.sequences.now.items _ _ c.in_ok-once.field-0 c.in-Some.is c.in_ok-once.ensures c.in_ok-push.ensures.items
