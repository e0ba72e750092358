use Rattle.can_conform.proofs.FirstDifferences.{some-verdict}
use Rattle.can_conform.proofs.VerdictLemmas.{first-alone, one-or-other, verdict-alone}
use Rattle.can_conform.proofs.laws.one_verdict.Goals as goal

pub returns-clause-apart : goal.returns-clause-apart
returns-clause-apart c = one-or-other

pub returns-clause-first : goal.returns-clause-first
returns-clause-first c = first-alone

pub returns-clause-one : goal.returns-clause-one
returns-clause-one c = verdict-alone

pub returns-clause-some : goal.returns-clause-some
returns-clause-some c = some-verdict
