use Rattle.std.proofs.Common.{rules}
use Rattle.can_terms.proofs.script.TesterLevel.seen_by.Goals as goal

pub returns-in-Forced : goal.returns-in-Forced
returns-in-Forced c = search rules
