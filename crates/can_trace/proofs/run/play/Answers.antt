use Rattle.std.proofs.Common.{◌≡◌, false, true, length, map, arith, ◌∙◌}
use Rattle.std.proofs.lemmas.List.{take_at}
use Rattle.can_bus.specs.Offers.{AreOffered}
use Rattle.can_bus.specs.State.{bus_state}
use Rattle.can_trace.specs.Report.{ended_bus, made_port, recorded_levels}
use Rattle.can_trace.specs.ScenarioOffers.{scenario_offers}
use Rattle.can_trace.proofs.OpenReports.{offered, scheduled-told}
use Rattle.can_node.proofs.NodePort.{node_port}
use Rattle.can_bus.proofs.RunLemmas.{new_bus-is}
use Rattle.can_trace.proofs.Started.{made-size, played-ends, played-known}
use Rattle.can_trace.proofs.run.play.Goals.{After-drop-offers-2}
use Rattle.can_trace.proofs.run.play.Goals as goal

pub unreachable-requires-in_default-play : goal.unreachable-requires-in_default-play
unreachable-requires-in_default-play c =
    let ports = made-size node_port c.in_ok-ports.ports.items c.deref.result.now c.in_ok-ports.ensures in
    let taken : AreOffered (length c.in-Ok.bus.ports.items) c.deref-3.result.now =
    rw (c.in-Ok.ensures.made.0, ports, c.deref.ensures.value, c.deref-3.ensures.value, c.in_ok-offers.ensures, c.deref-2.ensures.value) (offered c.args.scenario.now.ports.items) in
    let e : false ≡ true = c.in_default-play.ensures.taken.1 taken in
    cc

-- the ports as they were made, the offers, and how many levels there are
ports-made : (c : After-drop-offers-2) → map node_port c.in-Ok.bus.ports.items ≡ map made_port c.args.scenario.now.ports.items
ports-made c = rw (c.in-Ok.ensures.made.0, c.in_ok-ports.ensures, c.deref.ensures.value)

offers-are : (c : After-drop-offers-2) → c.deref-3.result.now ≡ scenario_offers c.args.scenario.now
offers-are c = rw (c.deref-3.ensures.value, c.in_ok-offers.ensures, c.deref-2.ensures.value)

levels-count : (c : After-drop-offers-2) → length c.play.new.rec ≡ c.args.scenario.now.bits
levels-count c = let whole : length c.play.new.rec ≡ c.in_ok-levels.levels.len = omega arith in omega (arith, whole, c.in_ok-levels.ensures)

levels-known : (c : After-drop-offers-2) → c.play.new.rec ≡ recorded_levels c.args.scenario.now
levels-known c =
    let bus = c.in-Ok.bus in
    let start = new_bus-is (map node_port bus.ports.items) (map made_port c.args.scenario.now.ports.items) bus.rest (ports-made c) c.in-Ok.ensures.made.1 in
    played-known c.args.scenario.now c.play.new.rec c.deref-3.result.now (bus_state node_port bus) c.requires (offers-are c) start (levels-count c) c.in-Ok-play.ensures.levels

ports-ended : (c : After-drop-offers-2) → map node_port c.play.new.self.ports.items ≡ (ended_bus c.args.scenario.now).ports
ports-ended c =
    let bus = c.in-Ok.bus in
    let start = new_bus-is (map node_port bus.ports.items) (map made_port c.args.scenario.now.ports.items) bus.rest (ports-made c) c.in-Ok.ensures.made.1 in
    played-ends c.args.scenario.now (length c.play.new.rec) c.deref-3.result.now (bus_state node_port bus) (bus_state node_port c.play.new.self) c.requires (offers-are c) start (levels-count c)
    c.in-Ok-play.ensures.bus

pub returns-clause-levels : goal.returns-clause-levels
returns-clause-levels c =
    let whole : length c.play.new.rec ≡ c.in_ok-levels.levels.len = omega arith in
    take_at c.play.new.rec _ _ whole ∙ levels-known c

pub returns-clause-ports : goal.returns-clause-ports
returns-clause-ports c = rw c.into_ports.ensures (ports-ended c)

pub returns-clause-scheduled : goal.returns-clause-scheduled
returns-clause-scheduled c = λ is past.
    scheduled-told c.args.scenario.now is c.play.new.rec c.deref-3.result.now (map node_port c.in-Ok.bus.ports.items) (map node_port c.play.new.self.ports.items)
    (offers-are c) (ports-made c) (levels-known c) (ports-ended c) (levels-count c) past
    c.in-Ok-play.ensures.track c.in-Ok-play.ensures.open_whole c.in-Ok-play.ensures.open_counters c.in-Ok-play.ensures.open_missed
