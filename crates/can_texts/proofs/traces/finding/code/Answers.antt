use Rattle.std.proofs.Common.{rules}
use Rattle.can_texts.proofs.traces.finding.code.Goals as goal

pub returns-in-Stuff : goal.returns-in-Stuff
returns-in-Stuff c = search rules
