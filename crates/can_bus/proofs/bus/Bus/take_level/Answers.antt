use Rattle.std.proofs.Common.{◌≡◌, ◌+◌, ◌++◌, refl, List, length, map, take, drop, arith, sym, ap, subst, ◌∙◌}
use Rattle.can_node.specs.Ports.{PortState}
use Rattle.can_bus.specs.Run.{begins_attempt, inverted_if, all_sampled}
use Rattle.can_bus.specs.Walks.{AreBelow, IsPassed, in_now}
use Rattle.can_bus.proofs.PortLoops.{all_back}
use Rattle.can_bus.proofs.StepLemmas.{same_call, within_now, within_next, at_next, passed_more, step_is}
use Rattle.can_bus.proofs.bus.Bus.take_level.Goals as goal

pub hits_wire-hit-requires-clause-within : goal.hits_wire-hit-requires-clause-within
hits_wire-hit-requires-clause-within g c =
    subst (λ l. AreBelow c.args.hits.now c.args.call.now.within.place (in_now l)) (sym c.attempt_now-call.ensures)
    (within_now c.args.hits.now c.args.call.now.within.place (begins_attempt c.args.self.now.rest c.args.driven.now) c.args.call.now.latest c.requires.call.within)

pub returns-clause-level : goal.returns-clause-level
returns-clause-level g c =
    let S = g.P.Port.port in
    let xs = c.args.self.now.ports.items in
    let level = c.inverted_if-level.result in
    (step_is c.args.hits.now (map S xs) (all_sampled c.args.hits.now c.args.call.now.time level 0 (map S xs)) c.args.self.now.rest c.args.call.now.time c.args.call.now.latest
    c.attempt_now-call.result c.args.driven.now level
    c.requires.driven
    c.attempt_now-call.ensures
    (c.inverted_if-level.ensures ∙ ap (λ b. inverted_if b c.args.driven.now) c.hits_wire-hit.ensures.result)
    refl).0

pub returns-clause-after : goal.returns-clause-after
returns-clause-after g c =
    let S = g.P.Port.port in
    let xs = c.args.self.now.ports in
    let level = c.inverted_if-level.result in
    let next : List PortState = map S (take c.args.self.now.ports.len (c.sample_all.new.ports ++ drop (length c.sample_all.new.ports) c.args.self.now.ports.items)) in
    let sampled : next ≡ all_sampled c.args.hits.now c.args.call.now.time level 0 (map S xs.items) =
    all_back S c.sample_all.new.ports xs.items xs.len (omega (arith, c.sample_all.auto.ports, c.as_mut_slice.ensures.len)) ∙ c.sample_all.ensures.ports
    ∙ ap (λ t. all_sampled c.args.hits.now t level 0 (map S c.as_mut_slice.result.now)) c.hits_wire-hit.ensures.time
    ∙ ap (λ ys. all_sampled c.args.hits.now c.args.call.now.time level 0 (map S ys)) c.as_mut_slice.ensures.value in
    let both = step_is c.args.hits.now (map S xs.items) next c.args.self.now.rest c.args.call.now.time c.args.call.now.latest
    c.attempt_now-call.result c.args.driven.now level
    c.requires.driven
    c.attempt_now-call.ensures
    (c.inverted_if-level.ensures ∙ ap (λ b. inverted_if b c.args.driven.now) c.hits_wire-hit.ensures.result)
    sampled in
    same_call {p = next} refl c.rest_after-self.ensures (ap (λ t. t + 1) c.hits_wire-hit.ensures.time) c.hits_wire-hit.ensures.latest ∙ both.1

pub returns-clause-call : goal.returns-clause-call
returns-clause-call g c =
    let begun = begins_attempt c.args.self.now.rest c.args.driven.now in
    let passed : IsPassed c.attempt_now-call.result (c.args.call.now.time + 1) =
    subst (λ l. IsPassed l (c.args.call.now.time + 1)) (sym c.attempt_now-call.ensures) (passed_more begun c.args.call.now.latest c.args.call.now.time c.requires.call.passed) in
    record {
      at = at_next c.args.hits.now c.hits_wire-hit.new.self.at.place c.hits_wire-hit.new.self.time c.hits_wire-hit.ensures.at;
      within = within_next c.args.hits.now c.hits_wire-hit.new.self.within.place c.hits_wire-hit.new.self.latest c.hits_wire-hit.ensures.within;
      view = c.sample_all.ensures.passed;
      passed = subst (λ l. IsPassed l (c.hits_wire-hit.new.self.time + 1)) (sym c.hits_wire-hit.ensures.latest)
          (subst (λ t. IsPassed c.attempt_now-call.result (t + 1)) (sym c.hits_wire-hit.ensures.time) passed);
    }
