use Rattle.std.specs.List.{list_any}
use Rattle.std.proofs.Common.{◌≡◌, ◌+◌, ◌-◌, ◌<◌, true, false, Some, arith, rules, sym, ap, subst, ◌∙◌}
use Rattle.can_bus.specs.declared.call.Call.{Call as Going}
use Rattle.can_bus.specs.Run.{following, hits_view, hits_wire}
use Rattle.can_bus.specs.Walks.{AreBelow, aged_by, in_now, until_view}
use Rattle.can_bus.proofs.BusAtRest.{call_rested, view_undisturbed}
use Rattle.can_bus.proofs.PassedFrames.{free-from, second-call}
use Rattle.can_bus.proofs.StepLemmas.{within_now}
use Rattle.can_bus.proofs.call.Call.up_to_hit.Goals as goal

pub hits_wire-requires-clause-within : goal.hits_wire-requires-clause-within
hits_wire-requires-clause-within c =
    subst (λ a. AreBelow c.args.hits.now c.args.self.now.within.place (in_now (Some a))) (sym c.following.ensures)
    (within_now c.args.hits.now c.args.self.now.within.place true c.args.self.now.latest c.requires.call.within)

pub undisturbed-more-requires-clause-call : goal.undisturbed-more-requires-clause-call
undisturbed-more-requires-clause-call c =
    second-call c.args.hits.now c.args.self.now c.hits_wire.new.self c.requires.call c.hits_wire.ensures.at c.hits_wire.ensures.within
    c.hits_wire.ensures.time (c.hits_wire.ensures.latest ∙ ap Some c.following.ensures) c.hits_wire.ensures.view

pub returns-clause-call : goal.returns-clause-call
returns-clause-call c =
    let now = c.hits_wire.new.self in
    let second : Going = record { time = now.time + 1; latest = now.latest; at = now.at; within = now.within; view = now.view } in
    call_rested c.args.hits.now second _ c.pass.new.self
    (second-call c.args.hits.now c.args.self.now now c.requires.call c.hits_wire.ensures.at c.hits_wire.ensures.within
    c.hits_wire.ensures.time (c.hits_wire.ensures.latest ∙ ap Some c.following.ensures) c.hits_wire.ensures.view)
    c.pass.ensures.time c.pass.ensures.latest c.pass.ensures.at c.pass.ensures.within c.pass.ensures.view

pub returns-clause-free : goal.returns-clause-free
returns-clause-free c =
    let hits = c.args.hits.now in
    let self = c.args.self.now in
    let now = c.hits_wire.new.self in
    let first = Some (following self.latest) in
    let latest : now.latest ≡ Some (following self.latest) = c.hits_wire.ensures.latest ∙ ap Some c.following.ensures in
    let none : c.hits_wire.result ≡ false = search rules in
    let seen : 0 < c.until_view.result = omega (arith, c.if-until_view-eq0.false) in
    let whole : c.pass.new.self.time - c.args.self.now.time ≡ c.undisturbed-more.result + 1 = omega (arith, c.pass.ensures.time, c.hits_wire.ensures.time) in
    free-from hits self.time first (c.pass.new.self.time - c.args.self.now.time)
    (ap (λ a. list_any (hits_wire self.time (Some a)) hits) (sym c.following.ensures) ∙ sym c.hits_wire.ensures.result ∙ none)
    (λ node. ap (λ t. list_any (hits_view t node) hits) (let e : self.time ≡ self.time + 0 = omega arith in e)
    ∙ view_undisturbed hits self 0 node c.requires.rising c.requires.call (subst (λ v. 0 < v) (c.until_view.ensures ∙ ap (until_view self.time) c.next.ensures) seen))
    (λ k within. ap (λ t. list_any (hits_wire ((t + 1) + k) (aged_by (k + 1) first)) hits) (sym c.hits_wire.ensures.time)
    ∙ ap (λ l. list_any (hits_wire ((now.time + 1) + k) (aged_by (k + 1) l)) hits) (sym latest)
    ∙ c.undisturbed-more.ensures.wire k (omega (arith, whole, within)))
    (λ k node within. ap (λ t. list_any (hits_view ((t + 1) + k) node) hits) (sym c.hits_wire.ensures.time) ∙ c.undisturbed-more.ensures.view k node (omega (arith, whole, within)))
