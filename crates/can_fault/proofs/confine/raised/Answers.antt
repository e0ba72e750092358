use Rattle.std.proofs.Common.{rules}
use Rattle.can_fault.proofs.confine.raised.Goals as goal

pub returns : goal.returns
returns c = search rules
