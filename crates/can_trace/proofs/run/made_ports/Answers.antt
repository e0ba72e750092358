use Rattle.std.proofs.Common.{ap, map, ◌∙◌}
use Rattle.can_node.proofs.NodePort.{node_port}
use Rattle.can_trace.proofs.Started.{made-all, made-next}
use Rattle.can_trace.proofs.run.made_ports.Goals as goal

pub loop-plan-preserved : goal.loop-plan-preserved
loop-plan-preserved c =
    ap (map node_port) c.in_ok-push.ensures.items
    ∙ made-next node_port c.loop-plan.ports.items c.args.plans.now c.loop-plan.plan-index c.in_ok-made_port.field-0 c.plan-item.result
    c.loop-plan-test.true c.loop-plan.invariant c.in_ok-made_port.ensures c.plan-item.is

pub returns : goal.returns
returns c = made-all node_port _ _ _ c.loop-plan-test.false c.loop-plan.invariant
