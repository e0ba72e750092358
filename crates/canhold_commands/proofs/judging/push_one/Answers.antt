use Rattle.std.proofs.Common.{rules}
use Rattle.canhold_commands.proofs.judging.push_one.Goals as goal

pub returns-in-Ok : goal.returns-in-Ok
returns-in-Ok c = search rules
