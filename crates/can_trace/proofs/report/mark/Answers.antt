use Rattle.std.proofs.Common.{rules}
use Rattle.can_trace.proofs.report.mark.Goals as goal

pub returns-then-sent-clause-word : goal.returns-then-sent-clause-word
returns-then-sent-clause-word c = search rules

pub returns-else-sent-clause-word : goal.returns-else-sent-clause-word
returns-else-sent-clause-word c = search rules
