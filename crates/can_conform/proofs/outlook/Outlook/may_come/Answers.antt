use Rattle.can_conform.proofs.OutlookLemmas.{foresees-later, handed-none}
use Rattle.can_conform.proofs.outlook.Outlook.may_come.Goals as goal

pub returns-clause-foresees : goal.returns-clause-foresees
returns-clause-foresees c = foresees-later c.args.script.now c.args.time c.reach.new.self c.reach.ensures.foresees

pub returns-clause-none : goal.returns-clause-none
returns-clause-none c = λ is p. handed-none c.args.script.now c.args.time c.reach.new.self p c.reach.ensures.reaches is c.reach.ensures.foresees
