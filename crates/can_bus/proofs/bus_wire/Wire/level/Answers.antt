use Rattle.std.specs.List.{list_any}
use Rattle.std.proofs.Common.{◌≡◌, ap, ◌∙◌}
use Rattle.can_bus.specs.Run.{hits_wire, inverted_if}
use Rattle.can_bus.specs.WireSteps.{is_struck, wire_behind}
use Rattle.can_bus.specs.declared.bus_wire.Moment.{Moment}
use Rattle.can_bus.proofs.bus_wire.Wire.level.Goals as goal

pub returns-clause-level : goal.returns-clause-level
returns-clause-level c =
    let struck : c.is_hit-hit.result ≡ is_struck c.args.hits.now c.args.self.now c.args.driven =
    c.is_hit-hit.ensures ∙ ap (λ (m : Moment). list_any (hits_wire m.time m.attempt) c.args.hits.now) c.moment.ensures in
    c.pass.ensures.level ∙ ap (λ hit. inverted_if hit c.args.driven) struck

pub returns-clause-after : goal.returns-clause-after
returns-clause-after c =
    let struck : c.is_hit-hit.result ≡ is_struck c.args.hits.now c.args.self.now c.args.driven =
    c.is_hit-hit.ensures ∙ ap (λ (m : Moment). list_any (hits_wire m.time m.attempt) c.args.hits.now) c.moment.ensures in
    c.pass.ensures.after ∙ ap (λ hit. wire_behind c.args.self.now c.args.driven (inverted_if hit c.args.driven)) struck
