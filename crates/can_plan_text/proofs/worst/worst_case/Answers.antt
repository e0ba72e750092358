use Rattle.can_plan_text.proofs.WorstCases.{too_long-by, worst-by}
use Rattle.can_plan_text.proofs.worst.worst_case.Goals as goal

pub returns-in_default-clause-too_long : goal.returns-in_default-clause-too_long
returns-in_default-clause-too_long c = λ is.
    too_long-by c.args.planned.now c.args.place c.blocker_of-blocker.result c.split_at.result.0.now c.split_at.result.1.now c.blocking.result
    c.split_at.ensures.front c.split_at.ensures.back c.blocking.ensures c.blocker_of-blocker.ensures c.in_default.ensures

pub returns-clause-worst : goal.returns-clause-worst
returns-clause-worst c =
    worst-by c.args.planned.now c.args.place c.blocker_of-blocker.result c.split_at.result.0.now c.split_at.result.1.now c.blocking.result
    c.split_at.ensures.front c.split_at.ensures.back c.blocking.ensures c.blocker_of-blocker.ensures _ c.in-Some.ensures.1 c.in_ok-sequences.ensures
