use Rattle.std.proofs.Common.{◌≡◌, ◌+◌, length, sym, subst, arith, add-one}
use Rattle.can_trace.specs.PortTimes.{AreFirstTold}
use Rattle.can_trace.proofs.ToldTimes.{first-none, first-next}
use Rattle.can_trace.proofs.port_times.all_told_times.Goals as goal

pub loop-node-init : goal.loop-node-init
loop-node-init c = subst (AreFirstTold c.args.scenario.now 0) (sym c.new-times.ensures.items) (first-none c.args.scenario.now)

pub loop-node-preserved : goal.loop-node-preserved
loop-node-preserved c =
    let s = c.args.scenario.now in
    let node = c.loop-node.node in
    let next = c.in_ok-tell_port.ensures in
    subst (AreFirstTold s (node + 1)) (sym next.2)
    (rw add-one (first-next s node c.loop-node.times.items next.0 c.loop-node.invariant next.1))

pub returns : goal.returns
returns c =
    let all : c.loop-node.node ≡ length c.args.scenario.now.ports.items = omega (arith, c.loop-node-test.false, c.loop-node.auto.node-end, c.len-node-end.ensures) in
    subst (λ ports. AreFirstTold c.args.scenario.now ports c.loop-node.times.items) all c.loop-node.invariant
