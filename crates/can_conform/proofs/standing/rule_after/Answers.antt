use Rattle.std.proofs.Common.{rules}
use Rattle.can_conform.proofs.standing.rule_after.Goals as goal

pub returns-in-Some-Error : goal.returns-in-Some-Error
returns-in-Some-Error g c = search rules
