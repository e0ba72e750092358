use Rattle.std.proofs.Common.{rules}
use Rattle.can_trace.proofs.run.run_scenario.Goals as goal

pub returns-clause-ok : goal.returns-clause-ok
returns-clause-ok g c = search rules

pub returns-clause-write : goal.returns-clause-write
returns-clause-write g c = search rules

pub returns-clause-scheduled : goal.returns-clause-scheduled
returns-clause-scheduled g c = search rules

pub returns-clause-quiet : goal.returns-clause-quiet
returns-clause-quiet g c = search rules
