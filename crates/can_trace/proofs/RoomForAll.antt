-- No offer of a scenario finds a full queue.
use Rattle.std.proofs.Common.{◌≡◌, ℕ, List, [], length, map, refl, sym, ◌∙◌, subst}
use Rattle.can_node.proofs.Arrivals.{GainingPort}
use Rattle.can_bus.specs.declared.offer.Offer.{Offer}
use Rattle.can_bus.specs.Offers.{call_after, offered_now, all_made, refused}
use Rattle.can_bus.specs.Timed.{offered_to}
use Rattle.can_bus.specs.Run.{call_begun}
use Rattle.can_bus.proofs.HitWires.{HitWire}
use Rattle.can_bus.proofs.NetworkRuns.{IsGoing, call-refused, open_wire}
use Rattle.can_bus.proofs.OfferLemmas.{offers-rise}
use Rattle.can_bus.proofs.OfferTimes.{AreInOrder}
use Rattle.can_bus.proofs.OpenNetworks.{plain-refused}
use Rattle.can_bus.proofs.OpenStart.{order-of, rooms}
use Rattle.can_bus.proofs.PlayedRuns.{AreRoomy, all-taken, all_arrived}
use Rattle.can_scenario_text.specs.declared.scenario.Scenario.{Scenario}
use Rattle.can_trace.specs.Report.{made_bus, made_port}
use Rattle.can_trace.specs.ScenarioOffers.{scenario_offers}
use Rattle.can_trace.proofs.OpenReports.{offered, planned-room}

module _ (s : Scenario) where
  abbrev offers : List Offer
  offers = scenario_offers s

  order : (node : ℕ) → AreInOrder (offered_to node offers)
  order = order-of offers (offers-rise (length s.ports.items) offers (offered s.ports.items))

  abbrev start : HitWire GainingPort
  start = open_wire offers 0 (offered_now offers (call_begun (made_bus s)))

  has-room : IsGoing offers [] order tt 0 (made_bus s) start
  unfolding call_after
  has-room =
      let room = rooms offers (map made_port s.ports.items) (planned-room s.ports.items) in
      let made : all_made offers 0 (map made_port s.ports.items) ≡ all_arrived offers 0 0 (map made_port s.ports.items) = all-taken offers 0 (map made_port s.ports.items) room.0 in
      record { wire = refl; time = refl; room = subst (AreRoomy offers 0 0) (sym made) room.1; have = room.0 }

  pub none-refused : (n : ℕ) → refused (scenario_offers s) n (made_bus s) ≡ 0
  none-refused n = plain-refused offers (made_bus s) (made_bus s) refl n ∙ call-refused offers [] order tt n (made_bus s) start has-room
