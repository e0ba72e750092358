use Rattle.std.proofs.Common.{◌≡◌, ◌+◌, ◌≤◌, Some, length, refl, ap, sym, ◌∙◌, slice_get, arith}
use Rattle.can_bus.specs.declared.offer.Offer.{Offer}
use Rattle.std.proofs.lemmas.Option.{slice_get_read, slice_get_within}
use Rattle.can_bus.proofs.OfferLemmas.{reached-last}
use Rattle.can_bus.proofs.bus.Bus.until_offer.Goals as goal

pub returns-then-progress-offers-clause-reached : goal.returns-then-progress-offers-clause-reached
returns-then-progress-offers-clause-reached g c =
    let next = c.index-offers-progress.result in
    let there : slice_get c.args.offers.now c.args.progress.now.place ≡ Some next =
    slice_get_read c.args.offers.now _ _ next refl c.if-progress-offers.true c.index-offers-progress.is in
    let later : c.args.time + 1 ≤ next.time = c.requires.reached.ahead c.args.progress.now.place next (omega arith) there in
    let same = ap (λ (o : Offer). o.time) c.index-offers-progress.is in
    reached-last (length c.args.self.now.ports.items) c.args.offers.now c.args.progress.now.place c.args.time _ c.requires.offered c.requires.reached (omega (arith, later, same)) (λ offer at. (
    let one : Some next ≡ Some offer = sym there ∙ at in
    let time : next.time ≡ offer.time = cc in
    omega (arith, later, same, time)))

pub returns-else-progress-offers-clause-reached : goal.returns-else-progress-offers-clause-reached
returns-else-progress-offers-clause-reached g c =
    reached-last (length c.args.self.now.ports.items) c.args.offers.now c.args.progress.now.place c.args.time (c.args.time + c.args.most) c.requires.offered c.requires.reached (omega arith)
    (λ offer at. absurd (omega (arith, slice_get_within c.args.offers.now c.args.progress.now.place offer at)))
