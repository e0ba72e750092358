use Rattle.std.proofs.Common.{rules}
use Rattle.can_mac.proofs.moves.stuffed_part.stuff_error.Goals as goal

pub returns-in-Sender-Dominant : goal.returns-in-Sender-Dominant
returns-in-Sender-Dominant c = search rules
