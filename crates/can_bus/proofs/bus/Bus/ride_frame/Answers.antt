use Rattle.std.proofs.Common.{◌≡◌, ◌≢◌, ◌-◌, ◌≤◌, ◌++◌, List, drop, length, map, take, arith, rules, ap, ◌∙◌}
use Rattle.can_mac.specs.Frames.{with_intermission}
use Rattle.can_node.specs.Ports.{PortState, port_run}
use Rattle.can_bus.specs.Passing.{rest_run}
use Rattle.can_bus.specs.State.{bus_state}
use Rattle.can_bus.specs.Walks.{call_on}
use Rattle.can_bus.proofs.BusAtRest.{after_none}
use Rattle.can_bus.proofs.NetworkCalls.{valid-ports}
use Rattle.can_bus.proofs.PassedFrames.{ridden-passed, ridden-recorded}
use Rattle.can_bus.proofs.PortLoops.{all_back}
use Rattle.can_bus.proofs.bus.Bus.ride_frame.Goals as goal

pub returns-then-most-lt-SHORTEST_RIDE-clause-after : goal.returns-then-most-lt-SHORTEST_RIDE-clause-after
returns-then-most-lt-SHORTEST_RIDE-clause-after g c = after_none c.args.hits.now (call_on (bus_state g.P.Port.port c.args.self.now) c.args.call.now)

pub returns-in_default-clause-after : goal.returns-in_default-clause-after
returns-in_default-clause-after g c = after_none c.args.hits.now (call_on (bus_state g.P.Port.port c.args.self.now) c.args.call.now)

pub returns-then-count-lt-SHORTEST_RIDE-clause-after : goal.returns-then-count-lt-SHORTEST_RIDE-clause-after
returns-then-count-lt-SHORTEST_RIDE-clause-after g c = after_none c.args.hits.now (call_on (bus_state g.P.Port.port c.args.self.now) c.args.call.now)

pub returns : goal.returns
returns g c =
    let S = g.P.Port.port in
    let items = c.args.self.now.ports.items in
    let call = c.args.call.now in
    let f = c.args.passing.now.frame in
    let later = c.in-Some.later in
    let rec = c.args.levels.now in
    let size : length c.args.levels.now ≡ length (with_intermission c.args.passing.now.frame) = ap length c.requires.levels in
    let most = c.saturating_sub-most.ensures in
    let within : c.in-Some.later.time - c.args.call.now.time ≤ length c.args.levels.now = omega (arith, most, c.in-Some.ensures.most) in
    let short : c.in-Some.later.time - c.args.call.now.time ≤ length (with_intermission c.args.passing.now.frame) = omega (arith, within, size) in
    let some : c.in-Some.later.time - c.args.call.now.time ≢ 0 = λ e. omega (arith, e, c.in-Some.ensures.some) in
    let valid = valid-ports S (λ x. g.met.P.Port.valid x) items in
    let are = ap (take (later.time - call.time)) c.requires.levels in
    let front = take (later.time - call.time) rec in
    let back = all_back S c.ride_all.new.ports items c.args.self.now.ports.len (omega (arith, c.ride_all.auto.ports, c.as_mut_slice.ensures.len)) in
    let next : List PortState = map S (take c.args.self.now.ports.len (c.ride_all.new.ports ++ drop (length c.ride_all.new.ports) c.args.self.now.ports.items)) in
    let goes : next ≡ map (λ p. port_run p front) (map S items) = back ∙ c.ride_all.ensures ∙ ap (λ ys. map (λ p. port_run p front) (map S ys)) c.as_mut_slice.ensures.value in
    record {
      most = first_of (search rules, omega arith);
      levels = ridden-recorded c.args.hits.now f c.requires.whole (map S items) c.args.self.now.rest call.time call.latest c.requires.rested c.requires.received valid c.requires.passes
          rec (later.time - call.time) some within short are c.in-Some.ensures.free;
      after = ridden-passed c.args.hits.now f c.requires.whole (map S items) c.args.self.now.rest call.time call.latest c.requires.rested c.requires.received valid c.requires.passes
          rec (later.time - call.time) some within short are c.in-Some.ensures.free
          next c.rest_behind-self.result later.time later.latest goes (c.rest_behind-self.ensures ∙ ap (λ r. rest_run r front) c.requires.rested) (omega (arith, c.in-Some.ensures.some)) c.in-Some.ensures.latest;
      call = first_of (search rules, omega arith);
      time = first_of (search rules, omega (arith, c.in-Some.ensures.some));
    }
