use Rattle.std.proofs.Common.{rules}
use Rattle.can_mac.proofs.moves.frame_end.unacknowledged.Goals as goal

pub returns-then-stance : goal.returns-then-stance
returns-then-stance c = search rules
