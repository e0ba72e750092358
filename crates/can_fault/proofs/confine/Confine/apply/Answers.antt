use Rattle.std.proofs.Common.{rules}
use Rattle.can_fault.proofs.confine.Confine.apply.Goals as goal

pub returns-in-SenderError : goal.returns-in-SenderError
returns-in-SenderError c = search rules
