use Rattle.std.proofs.Common.{◌<◌, arith, subst, ap, ◌∙◌}
use Rattle.can_bus.specs.Walks.{until_at, until_in, until_view}
use Rattle.can_bus.proofs.BusAtRest.{wire_undisturbed, view_undisturbed}
use Rattle.can_bus.proofs.call.Call.undisturbed.Goals as goal

pub returns-clause-wire : goal.returns-clause-wire
returns-clause-wire c = λ n h.
    let at : n < c.until_at-at.result = omega arith in
    let within : n < c.until_in-within.result = omega arith in
    let self = c.args.self.now in
    wire_undisturbed c.args.hits.now self n c.requires.rising c.requires.call
    (subst (λ v. n < v) (c.until_at-at.ensures ∙ ap (until_at self.time) c.next.ensures) at)
    (subst (λ v. n < v) (c.until_in-within.ensures ∙ ap (until_in self.latest) c.next-2.ensures) within)

pub returns-clause-view : goal.returns-clause-view
returns-clause-view c = λ n node h.
    let view : n < c.until_view-view.result = omega arith in
    let self = c.args.self.now in
    view_undisturbed c.args.hits.now self n node c.requires.rising c.requires.call
    (subst (λ v. n < v) (c.until_view-view.ensures ∙ ap (until_view self.time) c.next-3.ensures) view)
