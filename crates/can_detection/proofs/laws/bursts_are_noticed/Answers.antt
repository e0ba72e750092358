use Rattle.can_detection.proofs.Bursts.{bursts_equal}
use Rattle.can_detection.proofs.laws.bursts_are_noticed.Goals as goal

pub returns : goal.returns
returns c = bursts_equal
