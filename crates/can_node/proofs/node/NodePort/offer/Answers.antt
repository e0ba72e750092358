use Rattle.std.proofs.Common.{rules}
use Rattle.can_node.proofs.node.NodePort.offer.Goals as goal

pub returns-clause-taken : goal.returns-clause-taken
returns-clause-taken g c = search rules
