use Rattle.std.proofs.Common.{rules}
use Rattle.canhold_commands.proofs.executing.answered.Goals as goal

pub returns-in-Differ-clause-told : goal.returns-in-Differ-clause-told
returns-in-Differ-clause-told g c = search rules

pub returns-in-Nothing-clause-told : goal.returns-in-Nothing-clause-told
returns-in-Nothing-clause-told g c = search rules
