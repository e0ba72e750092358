use Rattle.std.proofs.Common.{rules}
use Rattle.canhold_commands.proofs.judging.counted.Goals as goal

pub returns-in-Fail : goal.returns-in-Fail
returns-in-Fail c = search rules
