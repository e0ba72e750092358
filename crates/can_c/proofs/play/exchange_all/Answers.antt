use Rattle.std.specs.Prelude.{is_some}
use Rattle.std.proofs.Common.{◌<◌, length, sym, ap, ◌∙◌, arith}
use Rattle.can_c.specs.declared.handle.Handle.{Handle}
use Rattle.can_node.proofs.NodePort.{node_port}
use Rattle.can_c.specs.Play.{held_by}
use Rattle.can_c.proofs.HandleLists.{exchange-held, exchange-next, exchange-none, exchanged-handles, exchanged-nodes, same-ports}
use Rattle.can_c.proofs.play.exchange_all.Goals as goal

pub loop-place-init : goal.loop-place-init
loop-place-init c = exchange-none node_port c.args.handles.now c.args.nodes.now

pub exchange-requires : goal.exchange-requires
exchange-requires c =
    let so = c.loop-place.invariant in
    let in-nodes : c.loop-place.place < length c.loop-place.nodes = omega arith in
    let in-handles : c.loop-place.place < length c.loop-place.handles = omega (arith, so.size_handles, so.size_nodes, c.requires.each) in
    ap (λ (h : Handle). is_some h.held) (sym c.index-handles-place.is)
    ∙ exchange-held node_port c.args.handles.now c.args.nodes.now c.loop-place.handles c.loop-place.nodes c.loop-place.place so c.index-handles-place.result c.index-nodes-place.result
    in-handles in-nodes c.index-handles-place.is c.index-nodes-place.is c.requires.held

pub loop-place-preserved : goal.loop-place-preserved
loop-place-preserved c =
    let so = c.loop-place.invariant in
    let in-nodes : c.loop-place.place < length c.loop-place.nodes = omega arith in
    let in-handles : c.loop-place.place < length c.loop-place.handles = omega (arith, so.size_handles, so.size_nodes, c.requires.each) in
    exchange-next node_port c.args.handles.now c.args.nodes.now c.loop-place.handles c.loop-place.nodes c.loop-place.place so c.index-handles-place.result c.index-nodes-place.result
    in-handles in-nodes c.index-handles-place.is c.index-nodes-place.is c.exchange.new.handle c.exchange.new.node (c.exchange.ensures.handle ∙ same-ports _ _ (sym c.index-nodes-place.is))
    (ap held_by c.index-handles-place.is ∙ c.exchange.ensures.node)

pub returns-clause-handles : goal.returns-clause-handles
returns-clause-handles c =
    exchanged-handles node_port c.args.handles.now c.args.nodes.now c.loop-place.handles c.loop-place.nodes c.loop-place.place c.loop-place.invariant c.requires.each (omega arith)

pub returns-clause-nodes : goal.returns-clause-nodes
returns-clause-nodes c =
    exchanged-nodes node_port c.args.handles.now c.args.nodes.now c.loop-place.handles c.loop-place.nodes c.loop-place.place c.loop-place.invariant c.requires.each (omega arith)
