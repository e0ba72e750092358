use Rattle.std.proofs.Common.{◌≡◌, ◌+◌, ◌≤◌, length, map, get_or, sym, ap, subst, ◌∙◌, arith, add-one}
use Rattle.can_node.specs.Ports.{PortState, all_offered}
use Rattle.can_scenario_text.specs.declared.scenario.PortPlan.{PortPlan}
use Rattle.can_scenario_text.specs.declared.scenario.TimedFrame.{TimedFrame}
use Rattle.can_trace.specs.Report.{made_port, waiting_port}
use Rattle.can_node.proofs.NodePort.{node_port}
use Rattle.can_trace.proofs.Started.{made-size, waits-next, waits-not}
use Rattle.can_trace.proofs.run.offer_waiting.Goals.{After-deref}
use Rattle.can_trace.proofs.run.offer_waiting.Goals as goal

-- the port is as it was made
as-made : (c : After-deref) → node_port (get_or c.loop-number.ports c.loop-number.number c.index-ports-number.result) ≡ made_port c.index-plans-number.result
as-made c =
    let size = made-size node_port c.args.ports.now c.args.plans.now c.requires in
    waits-not node_port c.loop-number.ports c.args.plans.now c.loop-number.number c.index-ports-number.result c.index-plans-number.result (omega (arith, size)) c.loop-number.invariant c.index-plans-number.is

-- and it is offered what its plan says
its-queue : (c : After-deref) → c.deref.result.now ≡ c.index-plans-number.result.queue.items
its-queue c = c.deref.ensures.value ∙ sym (ap (λ (p : PortPlan). p.queue.items) c.index-plans-number.is)

pub offer_all-requires : goal.offer_all-requires
offer_all-requires c =
    let fits : 0 + length c.deref.result.now ≤ length c.index-plans-number.result.queue.items = omega (arith, ap length (its-queue c)) in
    subst (λ (p : PortState). length p.queue + length c.deref.result.now ≤ p.queue_room) (sym (as-made c)) fits

pub loop-number-preserved : goal.loop-number-preserved
loop-number-preserved c =
    let plan = c.index-plans-number.result in
    let size = made-size node_port c.args.ports.now c.args.plans.now c.requires in
    let made : node_port (get_or c.loop-number.ports c.loop-number.number c.index-ports-number.result) ≡ made_port plan =
    waits-not node_port c.loop-number.ports c.args.plans.now c.loop-number.number c.index-ports-number.result plan (omega (arith, size)) c.loop-number.invariant c.index-plans-number.is in
    let queue : c.deref.result.now ≡ plan.queue.items = c.deref.ensures.value ∙ sym (ap (λ (p : PortPlan). p.queue.items) c.index-plans-number.is) in
    let waits : node_port c.offer_all.new.port ≡ waiting_port plan =
    c.offer_all.ensures ∙ ap (all_offered (map (λ (x : TimedFrame). x.frame) c.deref.result.now)) made
    ∙ ap (λ frames. all_offered (map (λ (x : TimedFrame). x.frame) frames) (made_port plan)) queue in
    rw add-one (waits-next node_port c.loop-number.ports c.args.plans.now c.loop-number.number c.offer_all.new.port plan (omega (arith, size)) c.loop-number.invariant c.index-plans-number.is waits)
