use Rattle.std.proofs.Common.{◌≡◌, ◌≤◌, ◌++◌, List, drop, length, map, take, arith, rules, ap, subst, ◌∙◌}
use Rattle.can_node.specs.Ports.{PortState, port_run}
use Rattle.can_bus.specs.Passing.{IsReceived, PassesBus}
use Rattle.can_bus.specs.State.{bus_state}
use Rattle.can_bus.specs.Walks.{call_on}
use Rattle.can_bus.proofs.BusAtRest.{after_none}
use Rattle.can_bus.proofs.NetworkCalls.{valid-ports}
use Rattle.can_bus.proofs.PassedFrames.{line-passed, line-recorded}
use Rattle.can_bus.proofs.PortLoops.{all_back}
use Rattle.can_bus.proofs.bus.Bus.pass_frame.Goals as goal

pub returns-then-is_recessive-clause-after : goal.returns-then-is_recessive-clause-after
returns-then-is_recessive-clause-after g c = after_none c.args.hits.now (call_on (bus_state g.P.Port.port c.args.self.now) c.args.call.now)

pub returns-in_default-clause-after : goal.returns-in_default-clause-after
returns-in_default-clause-after g c = after_none c.args.hits.now (call_on (bus_state g.P.Port.port c.args.self.now) c.args.call.now)

pub returns-then-count-eq0-clause-after : goal.returns-then-count-eq0-clause-after
returns-then-count-eq0-clause-after g c = after_none c.args.hits.now (call_on (bus_state g.P.Port.port c.args.self.now) c.args.call.now)

pub returns : goal.returns
returns g c =
    let S = g.P.Port.port in
    let items = c.args.self.now.ports.items in
    let call = c.args.call.now in
    let f = c.in-Some.passing.frame in
    let rested : c.args.self.now.rest ≡ 11 = first_of (omega arith, search rules) in
    let got : IsReceived f (map S items) = subst (λ xs. IsReceived f (map S xs)) c.as_slice.ensures.value c.in-Some.ensures.received in
    let passes : PassesBus f (map S items) = subst (λ xs. PassesBus f (map S xs)) c.as_slice.ensures.value c.in-Some.ensures.passes in
    let valid = valid-ports S (λ x. g.met.P.Port.valid x) items in
    let within : c.lay_out-count.result ≤ length c.lay_out-count.new.rec = omega (arith, c.lay_out-count.ensures.most, c.lay_out-count.ensures.len) in
    let are = c.lay_out-count.ensures.levels c.if-count-eq0.false in
    let back = all_back S c.pass_all.new.ports items c.args.self.now.ports.len (omega (arith, c.pass_all.auto.ports, c.as_mut_slice.ensures.len)) in
    let next : List PortState = map S (take c.args.self.now.ports.len (c.pass_all.new.ports ++ drop (length c.pass_all.new.ports) c.args.self.now.ports.items)) in
    let goes : next ≡ map (λ p. port_run p (take c.lay_out-count.result c.lay_out-count.new.rec)) (map S items) =
    back ∙ c.pass_all.ensures ∙ ap (λ ys. map (λ p. port_run p (take c.lay_out-count.result c.lay_out-count.new.rec)) (map S ys)) c.as_mut_slice.ensures.value in
    record {
      most = first_of (search rules, omega arith);
      levels = line-recorded c.args.hits.now f c.in-Some.ensures.whole (map S items) c.args.self.now.rest call.time call.latest rested got valid passes
          c.lay_out-count.new.rec c.lay_out-count.result c.if-count-eq0.false within are c.in-Some-behind.ensures.free;
      after = line-passed c.args.hits.now f c.in-Some.ensures.whole (map S items) c.args.self.now.rest call.time call.latest rested got valid passes
          c.lay_out-count.new.rec c.lay_out-count.result c.if-count-eq0.false within are c.in-Some-behind.ensures.free
          next c.in-Some-behind.later.time c.in-Some-behind.later.latest goes c.in-Some-behind.ensures.time c.in-Some-behind.ensures.latest;
      call = first_of (search rules, omega arith);
      time = first_of (search rules, omega arith);
    }
