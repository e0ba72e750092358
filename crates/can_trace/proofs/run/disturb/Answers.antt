use Rattle.std.proofs.Common.{◌≡◌, false, true, length, map, arith, ◌∙◌}
use Rattle.std.proofs.lemmas.List.{take_at}
use Rattle.can_terms.specs.Hits.{AreTaken}
use Rattle.can_bus.specs.State.{bus_state}
use Rattle.can_trace.specs.Report.{waiting_port}
use Rattle.can_node.proofs.NodePort.{node_port}
use Rattle.can_bus.proofs.RunLemmas.{new_bus-is}
use Rattle.can_trace.proofs.Started.{disturbed-ends, disturbed-known, same-size}
use Rattle.can_trace.proofs.run.disturb.Goals as goal

pub offer_waiting-requires : goal.offer_waiting-requires
offer_waiting-requires c = rw (c.deref_mut.ensures.value, c.in_ok-ports.ensures, c.deref.ensures.value, c.deref-2.ensures.value)

pub unreachable-requires-in_default-run : goal.unreachable-requires-in_default-run
unreachable-requires-in_default-run c =
    let whole : length c.offer_waiting.new.ports ≡ c.in_ok-ports.ports.len = omega arith in
    let items : c.in-Ok.bus.ports.items ≡ c.offer_waiting.new.ports = rw c.in-Ok.ensures.made.0 (take_at c.offer_waiting.new.ports _ _ whole) in
    let waits : map node_port c.in-Ok.bus.ports.items ≡ map waiting_port c.args.scenario.now.ports.items = rw (items, c.offer_waiting.ensures, c.deref-2.ensures.value) in
    let size = same-size node_port waiting_port c.in-Ok.bus.ports.items c.args.scenario.now.ports.items waits in
    let taken : AreTaken (length c.in-Ok.bus.ports.items) c.as_slice-hits.result.now = rw (size, c.as_slice-hits.ensures.value) c.args.scenario.now.taken in
    let e : false ≡ true = c.in_default-run.ensures.taken.1 taken in
    cc

pub returns-clause-levels : goal.returns-clause-levels
returns-clause-levels c =
    let scenario = c.args.scenario.now in
    let bus = c.in-Ok.bus in
    let whole : length c.offer_waiting.new.ports ≡ c.in_ok-ports.ports.len = omega arith in
    let items : bus.ports.items ≡ c.offer_waiting.new.ports = rw c.in-Ok.ensures.made.0 (take_at c.offer_waiting.new.ports _ _ whole) in
    let waits : map node_port bus.ports.items ≡ map waiting_port scenario.ports.items = rw (items, c.offer_waiting.ensures, c.deref-2.ensures.value) in
    let start = new_bus-is (map node_port bus.ports.items) (map waiting_port scenario.ports.items) bus.rest waits c.in-Ok.ensures.made.1 in
    let all : length c.run.new.rec ≡ c.in_ok-levels.levels.len = omega arith in
    let size : length c.run.new.rec ≡ scenario.bits = omega (arith, c.in_ok-levels.ensures) in
    take_at c.run.new.rec _ _ all
    ∙ disturbed-known scenario c.run.new.rec (bus_state node_port bus) c.requires start size (rw c.as_slice-hits.ensures.value at c.in-Ok-run.ensures.levels)

pub returns-clause-ports : goal.returns-clause-ports
returns-clause-ports c =
    let scenario = c.args.scenario.now in
    let bus = c.in-Ok.bus in
    let whole : length c.offer_waiting.new.ports ≡ c.in_ok-ports.ports.len = omega arith in
    let items : bus.ports.items ≡ c.offer_waiting.new.ports = rw c.in-Ok.ensures.made.0 (take_at c.offer_waiting.new.ports _ _ whole) in
    let waits : map node_port bus.ports.items ≡ map waiting_port scenario.ports.items = rw (items, c.offer_waiting.ensures, c.deref-2.ensures.value) in
    let start = new_bus-is (map node_port bus.ports.items) (map waiting_port scenario.ports.items) bus.rest waits c.in-Ok.ensures.made.1 in
    let all : length c.run.new.rec ≡ c.in_ok-levels.levels.len = omega arith in
    let size : length c.run.new.rec ≡ scenario.bits = omega (arith, c.in_ok-levels.ensures) in
    rw c.into_ports.ensures
    (disturbed-ends scenario (length c.run.new.rec) (bus_state node_port bus) (bus_state node_port c.run.new.self) c.requires start size (rw c.as_slice-hits.ensures.value at c.in-Ok-run.ensures.bus))
