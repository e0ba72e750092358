use Rattle.std.proofs.Common.{◌≡◌, Some, length, map, inr, true, refl, sym, ap, subst, ◌∙◌, arith}
use Rattle.std.proofs.lemmas.List.{take_at}
use Rattle.can_terms.specs.Hits.{AreTaken}
use Rattle.can_bus.specs.Network.{OnNetworkCall}
use Rattle.can_bus.specs.Offers.{call_after, call_level, call_refused, AreOffered}
use Rattle.can_bus.specs.Run.{AreLevelsOf, new_bus}
use Rattle.can_node.proofs.NodePort.{node_port}
use Rattle.can_c.specs.Play.{IsNetworkRun, IsPlayFault, bus_held, held_in, lacks_port, ports_held}
use Rattle.can_c.proofs.HandleLists.{lacks-none, ports-held}
use Rattle.can_c.proofs.PlayLemmas.{back-count, back-levels, back-ports, bus-held, fits-parts, network-same}
use Rattle.can_c.proofs.play.run.Goals as goal

-- there are 1 to 64 handles, and each holds a port
pub exchange_all-requires-clause-each : goal.exchange_all-requires-clause-each
exchange_all-requires-clause-each c = omega (arith, c.in_ok-nodes.ensures, ap length c.deref_mut.ensures.value)

pub exchange_all-requires-clause-held : goal.exchange_all-requires-clause-held
exchange_all-requires-clause-held c = (fits-parts (held_in c.args.handles.now) c.requires).2

pub exchange_all-requires-2-clause-held : goal.exchange_all-requires-2-clause-held
exchange_all-requires-2-clause-held c = ap lacks_port c.exchange_all.ensures.handles ∙ lacks-none (map node_port c.deref_mut.result.now)

-- what the bus has done
pub returns-in-Ok-clause-ports : goal.returns-in-Ok-clause-ports
returns-in-Ok-clause-ports c =
    let lent = c.exchange_all.new.nodes in
    let whole : length c.exchange_all.new.nodes ≡ c.in_ok-nodes.nodes.len = omega arith in
    let back = c.exchange_all-2.ensures.handles ∙ ap (λ xs. map Some (map node_port xs)) c.deref_mut-2.ensures.value in
    let ran = rw c.in-Ok.is at c.run_nodes-back.ensures.ports in
    back-ports c.args.handles.now c.exchange_all-2.new.handles (map node_port lent) (map node_port c.run_nodes-back.result.0.items) c.exchange_all.ensures.nodes back
    c.args.offers.now c.args.hits.now (length c.run_nodes-back.new.recorded)
    (subst (λ xs. map node_port c.run_nodes-back.result.0.items ≡ (call_after c.args.offers.now c.args.hits.now (length c.run_nodes-back.new.recorded) (new_bus (map node_port xs))).bus.ports) (take_at lent _ _ whole) ran)

pub returns-in-Ok-clause-levels : goal.returns-in-Ok-clause-levels
returns-in-Ok-clause-levels c =
    let lent = c.exchange_all.new.nodes in
    let whole : length c.exchange_all.new.nodes ≡ c.in_ok-nodes.nodes.len = omega arith in
    let back = c.exchange_all-2.ensures.handles ∙ ap (λ xs. map Some (map node_port xs)) c.deref_mut-2.ensures.value in
    let ran = rw c.in-Ok.is at c.run_nodes-back.ensures.levels in
    back-levels c.args.handles.now c.exchange_all-2.new.handles (map node_port lent) (map node_port c.run_nodes-back.result.0.items) c.exchange_all.ensures.nodes back
    c.args.offers.now c.args.hits.now c.run_nodes-back.new.recorded
    (subst (λ xs. AreLevelsOf (λ t. call_level c.args.offers.now c.args.hits.now t (new_bus (map node_port xs))) c.run_nodes-back.new.recorded) (take_at lent _ _ whole) ran)

pub returns-in-Ok-clause-count : goal.returns-in-Ok-clause-count
returns-in-Ok-clause-count c =
    let lent = c.exchange_all.new.nodes in
    let whole : length c.exchange_all.new.nodes ≡ c.in_ok-nodes.nodes.len = omega arith in
    let back = c.exchange_all-2.ensures.handles ∙ ap (λ xs. map Some (map node_port xs)) c.deref_mut-2.ensures.value in
    let ran = rw c.in-Ok.is at c.run_nodes-back.ensures.count in
    back-count c.args.handles.now c.exchange_all-2.new.handles (map node_port lent) (map node_port c.run_nodes-back.result.0.items) c.exchange_all.ensures.nodes back
    c.args.offers.now c.args.hits.now (length c.run_nodes-back.new.recorded) c.in-Ok.count
    (subst (λ xs. c.in-Ok.count ≡ call_refused c.args.offers.now c.args.hits.now (length c.run_nodes-back.new.recorded) (new_bus (map node_port xs))) (take_at lent _ _ whole) ran)

pub returns-in-Ok-clause-network : goal.returns-in-Ok-clause-network
returns-in-Ok-clause-network c =
    let lent = c.exchange_all.new.nodes in
    let whole : length c.exchange_all.new.nodes ≡ c.in_ok-nodes.nodes.len = omega arith in
    let back : held_in c.exchange_all-2.new.handles ≡ map Some (map node_port c.run_nodes-back.result.0.items) =
    c.exchange_all-2.ensures.handles ∙ ap (λ xs. map Some (map node_port xs)) c.deref_mut-2.ensures.value in
    network-same c.args.offers.now c.args.hits.now (new_bus (map node_port lent)) (bus_held (held_in c.args.handles.now)) c.run_nodes-back.new.recorded c.run_nodes-back.new.recorded
    (map node_port c.run_nodes-back.result.0.items) (ports_held (held_in c.exchange_all-2.new.handles))
    (bus-held (held_in c.args.handles.now) (map node_port lent) c.exchange_all.ensures.nodes) refl (sym (ap ports_held back ∙ ports-held (map node_port c.run_nodes-back.result.0.items)))
    (subst (λ xs. OnNetworkCall c.args.offers.now c.args.hits.now (new_bus (map node_port xs)) (λ course. IsNetworkRun c.args.offers.now course c.run_nodes-back.new.recorded (map node_port xs) (map node_port c.run_nodes-back.result.0.items))) (take_at lent _ _ whole) c.run_nodes-back.ensures.network)

pub returns-in-Ok-clause-offered : goal.returns-in-Ok-clause-offered
returns-in-Ok-clause-offered c =
    let lent = c.exchange_all.new.nodes in
    let whole : length c.exchange_all.new.nodes ≡ c.in_ok-nodes.nodes.len = omega arith in
    let size : length c.exchange_all.new.nodes ≡ length c.args.handles.now = omega (arith, c.in_ok-nodes.ensures, ap length c.deref_mut.ensures.value) in
    let all = (rw c.in-Ok.is at c.run_nodes-back.ensures.taken).0 (refl {a = true}) in
    subst (λ n. AreOffered n c.args.offers.now) (ap length (take_at lent _ _ whole) ∙ size) all.0

pub returns-in-Ok-clause-taken : goal.returns-in-Ok-clause-taken
returns-in-Ok-clause-taken c =
    let lent = c.exchange_all.new.nodes in
    let whole : length c.exchange_all.new.nodes ≡ c.in_ok-nodes.nodes.len = omega arith in
    let size : length c.exchange_all.new.nodes ≡ length c.args.handles.now = omega (arith, c.in_ok-nodes.ensures, ap length c.deref_mut.ensures.value) in
    let all = (rw c.in-Ok.is at c.run_nodes-back.ensures.taken).0 (refl {a = true}) in
    subst (λ n. AreTaken n c.args.hits.now) (ap length (take_at lent _ _ whole) ∙ size) all.1

pub returns-clause-why : goal.returns-clause-why
returns-clause-why c =
    let lent = c.exchange_all.new.nodes in
    let whole : length c.exchange_all.new.nodes ≡ c.in_ok-nodes.nodes.len = omega arith in
    let size : length c.exchange_all.new.nodes ≡ length c.args.handles.now = omega (arith, c.in_ok-nodes.ensures, ap length c.deref_mut.ensures.value) in
    let is = rw c.in-Err.is at c.run_nodes-back.ensures.fault in
    inr (c.in-Err.fault, (subst (λ n. IsPlayFault n c.args.offers.now c.args.hits.now c.in-Err.fault) (ap length (take_at lent _ _ whole) ∙ size) is, c.of_bus.ensures))
