use Rattle.can_plan.specs.Messages.{most_hits}
use Rattle.can_plan.proofs.Margins.{set-under}
use Rattle.can_plan.proofs.Places.{holds-at}
use Rattle.can_plan.proofs.laws.deadlines_are_kept.Goals as goal

pub returns-clause-kept : goal.returns-clause-kept
returns-clause-kept c = λ rate limit messages deadlines set met place m deadline here due.
    holds-at (most_hits rate) limit messages place m here set deadline (met place m deadline here due)

pub returns-clause-strained : goal.returns-clause-strained
returns-clause-strained c = set-under
