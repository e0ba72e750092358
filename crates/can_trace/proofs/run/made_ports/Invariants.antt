use Rattle.std.proofs.Common.{◌≡◌, map, take}
use Rattle.can_trace.specs.Report.{made_port}
use Rattle.can_node.proofs.NodePort.{node_port}
use Rattle.can_trace.proofs.run.made_ports.Given as goal

abbrev pub invariant-loop-plan : goal.invariant-loop-plan
invariant-loop-plan l = map node_port l.ports.items ≡ map made_port (take l.plan-index l.plans)
