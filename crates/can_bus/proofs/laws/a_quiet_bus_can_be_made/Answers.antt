use Rattle.can_bus.proofs.QuietPlans.{ready-quiet, ready-queued, ready-port}
use Rattle.can_bus.proofs.laws.a_quiet_bus_can_be_made.Goals as goal

pub returns : goal.returns
returns c = record { quiet = ready-quiet; queued = ready-queued; ports = ready-port }
