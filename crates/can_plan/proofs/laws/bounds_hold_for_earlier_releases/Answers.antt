use Rattle.can_plan.proofs.Shifted.{bounds-shifted}
use Rattle.can_plan.proofs.laws.bounds_hold_for_earlier_releases.Goals as goal

pub returns : goal.returns
returns c = bounds-shifted
