use Rattle.std.proofs.Common.{rules}
use Rattle.can_trace.proofs.run.made_port.Goals as goal

pub returns : goal.returns
returns c = search rules
