use Rattle.std.proofs.Common.{rules}
use Rattle.can_mac.proofs.moves.flags.error_flag.Goals as goal

pub returns-in-Dominant : goal.returns-in-Dominant
returns-in-Dominant c = search rules
