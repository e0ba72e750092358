use Rattle.can_bus.proofs.RepairedLevels.{unhit-line}
use Rattle.can_bus.proofs.laws.no_hit_leaves_a_quiet_line.Goals as goal

pub returns : goal.returns
returns c = unhit-line
