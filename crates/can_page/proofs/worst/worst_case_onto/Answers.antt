use Rattle.std.proofs.Common.{rules}
use Rattle.can_page.proofs.worst.worst_case_onto.Goals as goal

pub returns-in-Ok-write_all-clause-scenario : goal.returns-in-Ok-write_all-clause-scenario
returns-in-Ok-write_all-clause-scenario g c = search rules
