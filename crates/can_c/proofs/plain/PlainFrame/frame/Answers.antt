use Rattle.std.proofs.Common.{rules}
use Rattle.can_c.proofs.plain.PlainFrame.frame.Goals as goal

pub returns-in-None-clause-refused : goal.returns-in-None-clause-refused
returns-in-None-clause-refused c = search rules
