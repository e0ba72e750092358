use Rattle.std.proofs.Common.{arith}
use Rattle.std.proofs.lemmas.Grind.{common_steps}
use Rattle.can_plan_text.proofs.name.Name.of.Goals as goal

pub returns : goal.returns
returns c = grind (arith, common_steps)
