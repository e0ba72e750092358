use Rattle.can_bus.proofs.NetworkPlans.{comes-back, network-made}
use Rattle.can_bus.proofs.network_laws.a_network_can_be_made.Goals as goal

pub returns : goal.returns
returns c = record { call = network-made; comes_back = comes-back }
