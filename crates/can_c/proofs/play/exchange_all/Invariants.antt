use Rattle.can_node.proofs.NodePort.{node_port}
use Rattle.can_c.proofs.HandleLists.{IsExchanged}
use Rattle.can_c.proofs.play.exchange_all.Given as goal

abbrev pub invariant-loop-place : goal.invariant-loop-place
invariant-loop-place l = IsExchanged node_port l.fn.handles l.fn.nodes l.handles l.nodes l.place
