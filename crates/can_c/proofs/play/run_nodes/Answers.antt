use Rattle.std.specs.Prelude.{◌↔◌, IfErr, IfOk, IsOk, OnOk}
use Rattle.std.proofs.Common.{◌≡◌, ℕ, [], length, map, ap, refl, subst, ◌∙◌}
use Rattle.std.proofs.lemmas.Result.{on_err_weaker, on_ok_weaker}
use Rattle.std.specs.Vec.{vec_items}
use Rattle.can_bus.specs.Offers.{call_level, call_refused, AreOffered}
use Rattle.can_bus.specs.Run.{AreLevelsOf, BusState, new_bus}
use Rattle.can_bus.specs.State.{bus_state, port_count, port_states}
use Rattle.can_terms.specs.Hits.{AreTaken}
use Rattle.can_node.proofs.NodePort.{node_port}
use Rattle.can_c.specs.Play.{IsPlayFault}
use Rattle.can_c.proofs.PlayLemmas.{begun, both-ways, network-same, run-ports, run-size}
use Rattle.can_c.proofs.play.run_nodes.Goals as goal

pub returns-clause-each : goal.returns-clause-each
returns-clause-each c =
    let bus = c.in-Ok.bus in
    let run = c.play_disturbed-answer in
    let is : c.in-Ok.bus.ports.items ≡ c.args.nodes.items = ap vec_items c.in-Ok.ensures.made.0 in
    rw c.into_ports.ensures
    (both-ways run.result
    (on_ok_weaker run.result (λ ran. run-size node_port c.args.offers.now c.args.hits.now (length run.new.rec) c.args.nodes.items bus.ports.items run.new.self.ports.items bus.rest run.new.self.rest is c.in-Ok.ensures.made.1 ran) run.ensures.bus)
    (on_err_weaker run.result (λ same. ap port_count same ∙ ap length is) run.ensures.unchanged))

pub returns-clause-taken : goal.returns-clause-taken
returns-clause-taken c =
    let run = c.play_disturbed-answer in
    let is : c.in-Ok.bus.ports.items ≡ c.args.nodes.items = ap vec_items c.in-Ok.ensures.made.0 in
    subst (λ (n : ℕ). IsOk run.result ↔ (AreOffered n c.args.offers.now × AreTaken n c.args.hits.now)) (ap length is) run.ensures.taken

pub returns-clause-fault : goal.returns-clause-fault
returns-clause-fault c =
    let run = c.play_disturbed-answer in
    let is : c.in-Ok.bus.ports.items ≡ c.args.nodes.items = ap vec_items c.in-Ok.ensures.made.0 in
    subst (λ (n : ℕ). IfErr run.result (λ fault. IsPlayFault n c.args.offers.now c.args.hits.now fault)) (ap length is) run.ensures.fault

pub returns-clause-ports : goal.returns-clause-ports
returns-clause-ports c =
    let bus = c.in-Ok.bus in
    let run = c.play_disturbed-answer in
    let is : c.in-Ok.bus.ports.items ≡ c.args.nodes.items = ap vec_items c.in-Ok.ensures.made.0 in
    rw c.into_ports.ensures
    (on_ok_weaker run.result (λ ran. run-ports node_port c.args.offers.now c.args.hits.now (length run.new.rec) c.args.nodes.items bus.ports.items run.new.self.ports.items bus.rest run.new.self.rest is c.in-Ok.ensures.made.1 ran) run.ensures.bus)

pub returns-clause-levels : goal.returns-clause-levels
returns-clause-levels c =
    let bus = c.in-Ok.bus in
    let run = c.play_disturbed-answer in
    let is : c.in-Ok.bus.ports.items ≡ c.args.nodes.items = ap vec_items c.in-Ok.ensures.made.0 in
    subst (λ (b : BusState). OnOk run.result (AreLevelsOf (λ t. call_level c.args.offers.now c.args.hits.now t b) run.new.rec))
    (begun node_port c.args.offers.now c.args.hits.now 0 c.args.nodes.items bus.ports.items [] bus.rest 0 is c.in-Ok.ensures.made.1) run.ensures.levels

pub returns-clause-count : goal.returns-clause-count
returns-clause-count c =
    let bus = c.in-Ok.bus in
    let run = c.play_disturbed-answer in
    let is : c.in-Ok.bus.ports.items ≡ c.args.nodes.items = ap vec_items c.in-Ok.ensures.made.0 in
    subst (λ (b : BusState). IfOk run.result (λ count. count ≡ call_refused c.args.offers.now c.args.hits.now (length run.new.rec) b))
    (begun node_port c.args.offers.now c.args.hits.now 0 c.args.nodes.items bus.ports.items [] bus.rest 0 is c.in-Ok.ensures.made.1) run.ensures.count

pub returns-clause-unchanged : goal.returns-clause-unchanged
returns-clause-unchanged c =
    let run = c.play_disturbed-answer in
    let is : c.in-Ok.bus.ports.items ≡ c.args.nodes.items = ap vec_items c.in-Ok.ensures.made.0 in
    rw c.into_ports.ensures (on_err_weaker run.result (λ same. ap (port_states node_port) same ∙ ap (map node_port) is) run.ensures.unchanged)

pub returns-clause-network : goal.returns-clause-network
returns-clause-network c =
    let bus = c.in-Ok.bus in
    let run = c.play_disturbed-answer in
    let is : c.in-Ok.bus.ports.items ≡ c.args.nodes.items = ap vec_items c.in-Ok.ensures.made.0 in
    rw c.into_ports.ensures
    (network-same c.args.offers.now c.args.hits.now (bus_state node_port bus) (new_bus (map node_port c.args.nodes.items)) run.new.rec run.new.rec
    (map node_port run.new.self.ports.items) (map node_port run.new.self.ports.items)
    (begun node_port c.args.offers.now c.args.hits.now 0 c.args.nodes.items bus.ports.items [] bus.rest 0 is c.in-Ok.ensures.made.1) refl refl
    (λ course call. record {
      levels = run.ensures.course course call;
      logs = run.ensures.network_logs course call;
      has = run.ensures.network_has course call;
      whole = run.ensures.network_whole course call;
      tally = run.ensures.network_tally course call;
      active = run.ensures.network_active course call;
      counts = run.ensures.network_counts course call;
      rests = λ over. (run.ensures.network_rests course call over).ports;
      missed = run.ensures.network_missed course call;
    }))
