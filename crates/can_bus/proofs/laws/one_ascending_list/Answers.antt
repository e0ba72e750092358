use Rattle.can_bus.proofs.Ascending.{ascending_there, ascending_only, ascending_permuted}
use Rattle.can_bus.proofs.laws.one_ascending_list.Goals as goal

pub returns : goal.returns
returns c = record { exists = ascending_there; only = ascending_only; in_any_order = ascending_permuted }
