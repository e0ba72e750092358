use Rattle.std.proofs.Common.{rules}
use Rattle.can_node.proofs.PortLemmas.{port_logging_is}
use Rattle.can_node.proofs.node.Node.note.Goals as goal

pub returns-in-Some-Sent : goal.returns-in-Some-Sent
returns-in-Some-Sent g c = search (port_logging_is, rules)

pub returns-in-Some-Received : goal.returns-in-Some-Received
returns-in-Some-Received g c = search (port_logging_is, rules)

pub returns : goal.returns
returns g c = search (port_logging_is, rules)
