use Rattle.can_bus.proofs.RunLemmas.{runs_joined, levels_joined}
use Rattle.can_bus.proofs.laws.runs_join.Goals as goal

pub returns : goal.returns
returns c = record { bus = runs_joined; levels = levels_joined }
