use Rattle.std.proofs.Common.{rules}
use Rattle.can_mac.proofs.moves.between_frames.intermission.Goals as goal

pub returns-in-Dominant-2 : goal.returns-in-Dominant-2
returns-in-Dominant-2 c = search rules

pub returns-in-Recessive-2 : goal.returns-in-Recessive-2
returns-in-Recessive-2 c = search rules

pub returns-in-Recessive-3 : goal.returns-in-Recessive-3
returns-in-Recessive-3 c = search rules
