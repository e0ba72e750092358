use Rattle.canhold_commands.proofs.CommandLines.{no_start}
use Rattle.canhold_commands.proofs.command.start_in.Goals as goal

pub returns : goal.returns
returns c = no_start c.args.line.now (λ is. let told = c.is_case.ensures.1 is in cc) (λ is. let told = c.is_case-2.ensures.1 is in cc)
