use Rattle.std.proofs.Common.{ℕ, List, ◌≡◌, ◌+◌, ◌<◌, ◌≤◌, length, get_or, map, take, arith, rules, refl, sym, ap, subst, ◌∙◌}
use Rattle.std.proofs.lemmas.Grind.{elements}
use Rattle.std.proofs.lemmas.List.{length-map, length-take-le}
use Rattle.can_node.specs.Ports.{PortState, port_drives}
use Rattle.can_bus.specs.declared.bus.play_disturbed.Progress.{Progress}
use Rattle.can_bus.specs.Offers.{call_after, call_level, offered_now, AreOffered, all_made, refused_at}
use Rattle.can_bus.specs.Run.{BusState, CallState}
use Rattle.can_bus.specs.State.{bus_state}
use Rattle.can_bus.specs.Walks.{IsReached, call_on}
use Rattle.can_bus.specs.Wired.{wired}
use Rattle.can_bus.proofs.CallLemmas.{call-several, level-several, refused-several}
use Rattle.can_bus.proofs.OfferLemmas.{none-between}
use Rattle.can_bus.proofs.RunLemmas.{length-after}
use Rattle.can_bus.proofs.bus.Bus.advance.Goals as goal

pub until_offer-count-requires-clause-offered : goal.until_offer-count-requires-clause-offered
until_offer-count-requires-clause-offered g c = subst (λ n. AreOffered n c.args.offers.now) (sym c.pass_open_frame-passed.ensures.ports) c.requires.offered

pub advance_to_offer-requires-clause-driven : goal.advance_to_offer-requires-clause-driven
advance_to_offer-requires-clause-driven g c =
    let S = g.P.Port.port in
    let zero : c.pass_open_frame-passed.result ≡ 0 = omega (arith, c.if-passed-gt0.false) in
    c.wired_level-driven.ensures ∙ ap (λ ps. wired (map port_drives (map S ps))) c.as_slice.ensures.value
    ∙ ap (λ (k : CallState). wired (map port_drives k.bus.ports)) (sym (c.pass_open_frame-passed.ensures.unpassed zero))

pub returns : goal.returns
returns g c =
    let S = g.P.Port.port in
    let offers = c.args.offers.now in
    let hits = c.args.hits.now in
    let time = c.args.call.now.time in
    let place = c.pass_open_frame-passed.new.progress.place in
    let start : CallState = call_on (bus_state S c.pass_open_frame-passed.new.self) c.pass_open_frame-passed.new.call in
    let zero : c.pass_open_frame-passed.result ≡ 0 = omega (arith, c.if-passed-gt0.false) in
    let made : (bus : BusState) → call_on (bus_state S c.args.self.now) c.args.call.now ≡ offered_now offers (call_after offers hits time bus) → start ≡ offered_now offers (call_after offers hits time bus) =
    λ bus begun. c.pass_open_frame-passed.ensures.unpassed zero ∙ begun in
    let same = c.pass_open_frame-passed.ensures.unmade zero in
    let now : c.pass_open_frame-passed.new.call.time ≡ c.args.call.now.time = omega (arith, c.pass_open_frame-passed.ensures.time, zero) in
    let first : IsReached offers place (time + 1) = subst (λ (p : Progress). IsReached offers p.place (time + 1)) (sym same) c.requires.reached in
    let last : IsReached offers place (time + c.until_offer-count.result) = subst (λ t. IsReached offers place (t + c.until_offer-count.result)) now c.until_offer-count.ensures.reached in
    let none : (t : ℕ) (ports : List PortState) → c.args.call.now.time < t → t < c.args.call.now.time + c.until_offer-count.result → (all_made offers t ports ≡ ports) × (refused_at offers t ports ≡ 0) =
    λ t ports after before. none-between offers place time c.until_offer-count.result t ports first last after before in
    let span : length (take c.until_offer-count.result c.pass_open_frame-passed.new.rec) ≡ c.until_offer-count.result =
    length-take-le c.until_offer-count.result c.pass_open_frame-passed.new.rec (omega (arith, c.until_offer-count.ensures.most)) in
    let few : c.advance_to_offer.result ≤ c.until_offer-count.result = omega (arith, c.advance_to_offer.ensures.most, span) in
    record {
      some = omega (arith, c.advance_to_offer.ensures.some);
      most = search rules;
      after = λ bus begun.
          c.advance_to_offer.ensures.after ∙ sym (call-several offers hits bus time c.until_offer-count.result start (made bus begun) none c.advance_to_offer.result (omega (arith, c.advance_to_offer.ensures.some)) few);
      levels = λ bus begun t d early.
          let here : get_or c.advance_to_offer.new.rec t d ≡ call_level offers hits (time + t) bus =
          c.advance_to_offer.ensures.levels t d early ∙ level-several offers hits bus time c.until_offer-count.result start (made bus begun) none t (time + t) (omega (arith, early, few)) refl in
          first_of (grind (arith, elements), search rules);
      count = λ bus begun before.
          ap (λ (p : Progress). p.refused) same ∙ before
          ∙ refused-several offers hits bus time c.until_offer-count.result start (made bus begun) none 1 (omega arith) (omega (arith, few, c.advance_to_offer.ensures.some))
          ∙ sym (refused-several offers hits bus time c.until_offer-count.result start (made bus begun) none c.advance_to_offer.result (omega (arith, c.advance_to_offer.ensures.some)) few);
      reached = search rules;
      refused = search rules;
      ports =
          sym (length-map c.advance_to_offer.new.self.ports.items S) ∙ ap (λ (k : CallState). length k.bus.ports) c.advance_to_offer.ensures.after ∙ length-after hits _ _
          ∙ length-map c.pass_open_frame-passed.new.self.ports.items S ∙ c.pass_open_frame-passed.ensures.ports;
      call = search rules;
      time = search rules;
    }
