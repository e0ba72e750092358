use Rattle.std.proofs.Common.{◌≡◌, Some, ap, ◌∙◌}
use Rattle.can_frame.specs.Levels.{level_code}
use Rattle.can_bus.specs.Run.{inverted_if}
use Rattle.can_bus.specs.WireSteps.{WireState, is_struck, wire_behind, wire_level, wire_seen}
use Rattle.can_bus.specs.declared.bus_wire.Moment.{Moment}
use Rattle.can_c.specs.PlainInputs.{hits_of_plain}
use Rattle.can_c.specs.PlainWires.{wire_of_plain}
use Rattle.can_c.proofs.WireLemmas.{moment_of, struck-is}
use Rattle.can_c.proofs.plain_wire.bit_time.Goals as goal

pub returns-clause-after : goal.returns-clause-after
returns-clause-after c =
    let w : WireState = wire_of_plain c.args.wire.now in
    let driven = c.args.driven in
    let is : c.moment-moment.result ≡ moment_of w driven = c.moment-moment.ensures ∙ ap (λ v. moment_of v driven) c.wire-passing.ensures in
    let struck : c.falls.result ≡ is_struck (hits_of_plain c.args.hits.now) w driven = struck-is c.args.hits.now w driven c.moment-moment.result c.falls.result is c.falls.ensures in
    c.of.ensures.wire ∙ c.pass-level.ensures.after
    ∙ ap (λ v. wire_behind v driven (inverted_if c.falls.result driven)) c.wire-passing.ensures
    ∙ ap (λ hit. wire_behind w driven (inverted_if hit driven)) struck

pub returns-clause-level : goal.returns-clause-level
returns-clause-level c =
    let w : WireState = wire_of_plain c.args.wire.now in
    let driven = c.args.driven in
    let is : c.moment-moment.result ≡ moment_of w driven = c.moment-moment.ensures ∙ ap (λ v. moment_of v driven) c.wire-passing.ensures in
    let struck : c.falls.result ≡ is_struck (hits_of_plain c.args.hits.now) w driven = struck-is c.args.hits.now w driven c.moment-moment.result c.falls.result is c.falls.ensures in
    c.pass-level.ensures.level ∙ ap (λ hit. inverted_if hit driven) struck

pub returns-clause-seen : goal.returns-clause-seen
returns-clause-seen c = λ t within.
    let w : WireState = wire_of_plain c.args.wire.now in
    let driven = c.args.driven in
    let hits = hits_of_plain c.args.hits.now in
    let is : c.moment-moment.result ≡ moment_of w driven = c.moment-moment.ensures ∙ ap (λ v. moment_of v driven) c.wire-passing.ensures in
    let struck : c.falls.result ≡ is_struck hits w driven = struck-is c.args.hits.now w driven c.moment-moment.result c.falls.result is c.falls.ensures in
    let level : c.pass-level.result ≡ wire_level hits w driven = c.pass-level.ensures.level ∙ ap (λ hit. inverted_if hit driven) struck in
    c.tell_each.ensures t within
    ∙ ap (λ (m : Moment). Some (level_code (wire_seen hits m.time c.pass-level.result t))) is
    ∙ ap (λ x. Some (level_code (wire_seen hits w.time x t))) level
