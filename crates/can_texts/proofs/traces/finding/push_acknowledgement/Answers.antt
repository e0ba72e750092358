use Rattle.std.proofs.Common.{rules}
use Rattle.can_texts.proofs.traces.finding.push_acknowledgement.Goals as goal

pub returns-else-acked-clause-text : goal.returns-else-acked-clause-text
returns-else-acked-clause-text c = search rules
