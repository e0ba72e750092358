use Rattle.std.proofs.Common.{rules}
use Rattle.can_c.proofs.ports.can_c_idle.Goals as goal

pub returns-clause-made : goal.returns-clause-made
returns-clause-made c = search rules
