use Rattle.can_fault.proofs.RunLemmas.{recessive_runs-replicate, recessive_runs-split}
use Rattle.can_fault.proofs.laws.runs_end_at_dominant_levels.Goals as goal

pub returns-clause-alone : goal.returns-clause-alone
returns-clause-alone c = recessive_runs-replicate

pub returns-clause-parted : goal.returns-clause-parted
returns-clause-parted c = recessive_runs-split
