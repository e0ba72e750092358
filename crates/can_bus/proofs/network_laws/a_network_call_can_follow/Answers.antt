use Rattle.can_bus.proofs.CallsFollow.{next-network}
use Rattle.can_bus.proofs.network_laws.a_network_call_can_follow.Goals as goal

pub returns : goal.returns
returns c = λ offers next hits struck before after course behind call free logs tallies is. next-network offers next hits struck before after course behind call free logs tallies is
