use Rattle.std.proofs.Common.{rules}
use Rattle.canbit_commands.proofs.program.execute.Goals as goal

pub returns-in-Ok-clause-input_refused : goal.returns-in-Ok-clause-input_refused
returns-in-Ok-clause-input_refused g c = search rules
