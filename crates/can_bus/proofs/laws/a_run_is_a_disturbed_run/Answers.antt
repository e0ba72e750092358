use Rattle.can_bus.proofs.DisturbedRuns.{disturbed-end, disturbed-levels, disturbed-one, ports-led, run-disturbed}
use Rattle.can_bus.proofs.laws.a_run_is_a_disturbed_run.Goals as goal

pub returns : goal.returns
returns c = record { exists = run-disturbed; levels = disturbed-levels; bus = disturbed-end; one = disturbed-one; ports = ports-led }
