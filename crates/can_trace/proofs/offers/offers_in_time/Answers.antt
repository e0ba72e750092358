use Rattle.std.proofs.Common.{ap, ◌∙◌, rules}
use Rattle.std.proofs.lemmas.List.Sorted.{IsNonDecreasingBy-from_sort_by_key}
use Rattle.can_bus.specs.declared.offer.Offer.{Offer}
use Rattle.can_trace.specs.ScenarioOffers.{in_time}
use Rattle.can_trace.proofs.OfferOrder.{sorted-in_time, stable-from_sort_by_key}
use Rattle.can_trace.proofs.offers.offers_in_time.Goals as goal

pub returns : goal.returns
returns c =
    sorted-in_time c.in_ok-offers.offers.items c.sort_by_key.new.self.items
    (IsNonDecreasingBy-from_sort_by_key (λ (o : Offer). o.time) _ c.in_ok-sort_by_key.ensures.sorted (λ a r q k. search rules))
    (stable-from_sort_by_key _ _ c.in_ok-sort_by_key.ensures.stable (λ a r q k. search rules))
    ∙ ap in_time c.in_ok-offers.ensures
