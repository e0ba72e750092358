use Rattle.std.proofs.Common.{◌≡◌, ◌<◌, ◌≤◌, ◌+◌, Some, length, drop, slice_get, refl, sym, ap, arith, ◌∙◌}
use Rattle.std.proofs.lemmas.Option.{slice_get_read, slice_get_within, get_or_from_slice_get}
use Rattle.can_bus.specs.declared.offer.Offer.{Offer}
use Rattle.can_bus.proofs.OfferLemmas.{within-first, within-more, within-last}
use Rattle.can_trace.specs.PortTimes.{own_made}
use Rattle.can_trace.proofs.ToldTimes.{own-front, own-next, own-rest}
use Rattle.can_trace.proofs.port_times.offer_due.Goals as goal

pub loop-place-init : goal.loop-place-init
loop-place-init g c = record {
  within = within-first c.args.offers.now c.args.place.now c.args.time c.requires.reached;
  port = own-front c.args.node c.args.time c.args.offers.now c.args.place.now (g.P.Port.port c.args.port.now)
      (λ n o before at. let h : o.time < c.args.time = c.requires.reached.passed n o before at in omega arith);
}

pub loop-place-preserved : goal.loop-place-preserved
loop-place-preserved g c =
    let offers = c.args.offers.now in
    let place = c.loop-place.place in
    let offer = c.index-offers-place-in-loop-place.result in
    let there : slice_get c.args.offers.now c.loop-place.place ≡ Some c.index-offers-place-in-loop-place.result =
    slice_get_read offers _ _ offer refl c.loop-place-test.true c.index-offers-place-in-loop-place.is in
    let now : c.index-offers-place-in-loop-place.result.time ≡ c.args.time =
    ap (λ (o : Offer). o.time) (sym (get_or_from_slice_get offers place offer c.index-offers-place.result there)) ∙ c.if-offers-place.true in
    record {
      within = within-more c.requires.offered.0 offers place c.args.time offer c.requires.offered.1 c.loop-place.invariant.within there now;
      port = ap (own_made c.args.node (drop (place + 1) offers) c.args.time) c.offer_own.ensures
          ∙ sym (own-next c.args.node c.args.time offers place (g.P.Port.port c.loop-place.port) offer there now) ∙ c.loop-place.invariant.port;
    }

pub returns-else-offers-place-clause-reached : goal.returns-else-offers-place-clause-reached
returns-else-offers-place-clause-reached g c =
    within-last c.requires.offered.0 c.args.offers.now c.loop-place.place c.args.time c.requires.offered.1 c.loop-place.invariant.within
    (λ offer there now. c.if-offers-place.false
    (ap (λ (o : Offer). o.time) (get_or_from_slice_get c.args.offers.now c.loop-place.place offer c.index-offers-place.result there) ∙ now))

pub returns-else-offers-place-clause-port : goal.returns-else-offers-place-clause-port
returns-else-offers-place-clause-port g c =
    let reached = returns-else-offers-place-clause-reached g c in
    sym (own-rest c.args.node c.args.time c.args.offers.now c.loop-place.place (g.P.Port.port c.loop-place.port)
    (λ n o behind at. let h : c.args.time + 1 ≤ o.time = reached.ahead n o behind at in omega arith)) ∙ c.loop-place.invariant.port

pub returns-after-loop-place-clause-reached : goal.returns-after-loop-place-clause-reached
returns-after-loop-place-clause-reached g c =
    within-last c.requires.offered.0 c.args.offers.now c.loop-place.place c.args.time c.requires.offered.1 c.loop-place.invariant.within
    (λ offer there now.
    let within : c.loop-place.place < length c.args.offers.now = slice_get_within c.args.offers.now c.loop-place.place offer there in omega arith)
