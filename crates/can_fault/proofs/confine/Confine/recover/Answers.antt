use Rattle.std.proofs.Common.{rules}
use Rattle.can_fault.proofs.RecoveryLemmas.{one_level-ends, one_level-waits}
use Rattle.can_fault.proofs.confine.Confine.recover.Goals as goal

pub returns-then-ended-clause-ended : goal.returns-then-ended-clause-ended
returns-then-ended-clause-ended c = one_level-ends c.args.self.now c.state.ensures.kept c.args.level _ (search rules)

pub returns-else-ended-clause-ended : goal.returns-else-ended-clause-ended
returns-else-ended-clause-ended c = one_level-ends c.args.self.now c.state.ensures.kept c.args.level _ (search rules)

pub returns-else-ended-clause-waiting : goal.returns-else-ended-clause-waiting
returns-else-ended-clause-waiting c =
    λ off none. one_level-waits c.args.self.now c.state.ensures.kept c.args.level _ (search rules) off _ (search rules) none
