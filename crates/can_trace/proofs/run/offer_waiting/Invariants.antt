use Rattle.std.proofs.Common.{◌≡◌, map}
use Rattle.can_node.proofs.NodePort.{node_port}
use Rattle.can_trace.proofs.Started.{partly_waiting}
use Rattle.can_trace.proofs.run.offer_waiting.Given as goal

abbrev pub invariant-loop-number : goal.invariant-loop-number
invariant-loop-number l = map node_port l.ports ≡ partly_waiting l.number l.plans
