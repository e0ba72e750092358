use Rattle.std.proofs.Common.{◌≡◌, ◌+◌, ◌≤◌, ◌++◌, List, drop, length, map, refl, sym, take, arith, rules, ap, subst, ◌∙◌}
use Rattle.can_node.specs.Ports.{PortState, port_run}
use Rattle.can_bus.specs.Offers.{AreOffered}
use Rattle.can_bus.specs.Passing.{HasRoom, IsReceived, PassesAt, PassesBus, due_before}
use Rattle.can_bus.proofs.NetworkCalls.{valid-ports}
use Rattle.can_bus.proofs.OfferLemmas.{offers-rise}
use Rattle.can_bus.proofs.OpenFrames.{open-call}
use Rattle.can_bus.proofs.PortLoops.{all_back, length_back}
use Rattle.can_bus.proofs.StepLemmas.{call_of}
use Rattle.can_bus.proofs.bus.Bus.pass_open_frame.Goals as goal

pub offers_to-own-requires : goal.offers_to-own-requires
offers_to-own-requires g c = offers-rise (length c.args.self.now.ports.items) c.args.offers.now c.requires.offered

pub make_behind-requires-clause-offered : goal.make_behind-requires-clause-offered
make_behind-requires-clause-offered g c =
    let back = length_back c.pass_all.new.ports c.args.self.now.ports.items c.args.self.now.ports.len (omega (arith, c.pass_all.auto.ports, c.as_mut_slice.ensures.len)) in
    subst (λ n. AreOffered n c.args.offers.now) (sym (back ∙ c.pass_all.auto.ports ∙ ap length c.as_mut_slice.ensures.value)) c.requires.offered

pub returns : goal.returns
returns g c =
    let S = g.P.Port.port in
    let items = c.args.self.now.ports.items in
    let offers = c.args.offers.now in
    let call = c.args.call.now in
    let place = c.args.progress.now.place in
    let f = c.in-Some.passing.frame in
    let s = c.in-Some.passing.place in
    let rec = c.lay_out-count.new.rec in
    let later = c.in-Some-behind.later in
    let rested : c.args.self.now.rest ≡ 11 = first_of (omega arith, search rules) in
    let got : IsReceived f (map S items) = subst (λ xs. IsReceived f (map S xs)) c.as_slice.ensures.value c.in-Some.ensures.received in
    let passes : PassesBus f (map S items) = subst (λ xs. PassesBus f (map S xs)) c.as_slice.ensures.value c.in-Some.ensures.passes in
    let sender : PassesAt f s 0 (map S items) = subst (λ xs. PassesAt f s 0 (map S xs)) c.as_slice.ensures.value c.in-Some.ensures.sender in
    let fits : HasRoom s (due_before s (call.time + c.lay_out-count.result) (drop c.args.progress.now.place c.args.offers.now)) 0 (map S items) =
    subst (λ n. HasRoom s n 0 (map S items)) (c.offers_to-own.ensures ∙ ap (λ t. due_before s t (drop c.args.progress.now.place c.args.offers.now)) c.in-Some-behind.ensures.time)
    (subst (λ xs. HasRoom s c.offers_to-own.result 0 (map S xs)) c.as_slice-2.ensures.value (c.if-not-has_room.ensures refl)) in
    let within : c.lay_out-count.result ≤ length c.lay_out-count.new.rec = omega (arith, c.lay_out-count.ensures.most, c.lay_out-count.ensures.len) in
    let back = all_back S c.pass_all.new.ports items c.args.self.now.ports.len (omega (arith, c.pass_all.auto.ports, c.as_mut_slice.ensures.len)) in
    let ran : List PortState = map S (take c.args.self.now.ports.len (c.pass_all.new.ports ++ drop (length c.pass_all.new.ports) c.args.self.now.ports.items)) in
    let runs : ran ≡ map (λ p. port_run p (take c.lay_out-count.result c.lay_out-count.new.rec)) (map S items) =
    back ∙ c.pass_all.ensures ∙ ap (λ ys. map (λ p. port_run p (take c.lay_out-count.result c.lay_out-count.new.rec)) (map S ys)) c.as_mut_slice.ensures.value in
    let passed = open-call offers c.args.hits.now f c.in-Some.ensures.whole s (map S items) c.args.self.now.rest call.time call.latest rested got (valid-ports S (λ x. g.met.P.Port.valid x) items) passes sender
    place c.requires.reached rec c.lay_out-count.result c.if-count-eq0.false within (c.lay_out-count.ensures.levels c.if-count-eq0.false) fits c.in-Some-behind.ensures.free
    (map S c.make_behind.new.self.ports.items) ran later.time later.latest c.make_behind.new.progress.refused c.args.progress.now.refused
    c.in-Some-behind.ensures.time c.in-Some-behind.ensures.latest runs c.make_behind.ensures.ports c.make_behind.ensures.count in
    record {
      most = first_of (search rules, omega arith);
      after = λ some bus start. ap (λ r. call_of (map S c.make_behind.new.self.ports.items) r later.time later.latest) c.make_behind.ensures.rest ∙ (passed bus start).0;
      levels = λ bus start. (passed bus start).1;
      count = λ some bus start first. (passed bus start).2 first;
      reached = first_of (search rules, omega arith);
      refused = first_of (search rules, omega arith);
      ports = c.make_behind.ensures.size ∙ length_back c.pass_all.new.ports items c.args.self.now.ports.len (omega (arith, c.pass_all.auto.ports, c.as_mut_slice.ensures.len)) ∙ c.pass_all.auto.ports ∙ ap length c.as_mut_slice.ensures.value;
      call = first_of (search rules, omega arith);
      time = first_of (search rules, omega arith);
      unpassed = λ none. absurd (c.if-count-eq0.false none);
      unmade = λ none. absurd (c.if-count-eq0.false none);
    }
