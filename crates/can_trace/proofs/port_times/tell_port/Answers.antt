use Rattle.std.proofs.Common.{◌≡◌, List, Some, length, slice_get, refl, ap, subst, arith, ◌∙◌}
use Rattle.std.proofs.lemmas.Option.{slice_get_read}
use Rattle.can_trace.specs.PortTimes.{AreSeen, first_port, offers_meanwhile, told_from}
use Rattle.can_node.proofs.NodePort.{node_port}
use Rattle.can_trace.specs.declared.port_times.PortTime.{PortTime}
use Rattle.can_trace.proofs.ToldTimes.{if-told, length-told, length-recorded, meanwhile-offered, seen-known, told-known}
use Rattle.can_trace.proofs.port_times.tell_port.Goals as goal

pub replay-requires : goal.replay-requires
replay-requires c =
    let s = c.args.scenario.now in
    (length s.ports.items, rw c.requires.offers (meanwhile-offered s.hits.items s))

pub returns : goal.returns
returns c =
    let s = c.args.scenario.now in
    let plan = c.index.result.now in
    let node = c.args.node in
    let there : slice_get c.args.scenario.now.ports.items c.args.node ≡ Some c.index.result.now =
    slice_get_read s.ports.items _ _ plan refl c.requires.port c.index.ensures in
    let port : node_port c.in_ok-port.port ≡ first_port c.args.scenario.now.hits.items c.index.result.now =
    c.in_ok-port.ensures ∙ ap (λ hits. first_port hits plan) c.deref-2.ensures.value in
    let sees : AreSeen c.args.scenario.now.hits.items c.args.node c.args.levels.now c.deref-3.result.now =
    rw c.deref-3.ensures.value (subst (λ hits. AreSeen hits c.args.node c.args.levels.now c.in_ok-seen.seen.items) c.deref.ensures.value c.in_ok-seen.ensures.seen) in
    let size : length c.deref-3.result.now ≡ length c.args.levels.now = ap length c.deref-3.ensures.value ∙ c.in_ok-seen.ensures.each in
    let known = seen-known s node c.args.levels.now c.deref-3.result.now c.requires.levels size sees in
    let bits : length c.deref-3.result.now ≡ c.args.scenario.now.bits = size ∙ ap length c.requires.levels ∙ length-recorded s in
    let own = told_from node c.args.offers.now 0 (node_port c.in_ok-port.port) c.deref-3.result.now in
    if-told c.replay.result c.replay.ensures (λ done is. (
      own,
      record {
        each = length-told node c.args.offers.now 0 (node_port c.in_ok-port.port) c.deref-3.result.now ∙ bits;
        told = λ t p within at.
            ap (λ (xs : List PortTime). slice_get xs t) (ap (λ os. told_from node os 0 (node_port c.in_ok-port.port) c.deref-3.result.now) c.requires.offers
            ∙ ap (λ q. told_from node (offers_meanwhile s.hits.items s) 0 q c.deref-3.result.now) port)
            ∙ told-known s.hits.items s node plan c.deref-3.result.now there known t p (omega (arith, within, bits)) at;
      },
      is,
    ))
