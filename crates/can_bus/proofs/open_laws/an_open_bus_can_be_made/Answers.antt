use Rattle.can_bus.proofs.OpenPlans.{open-made}
use Rattle.can_bus.proofs.open_laws.an_open_bus_can_be_made.Goals as goal

pub returns : goal.returns
returns c = open-made
