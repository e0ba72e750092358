use Rattle.std.specs.Prelude.{if◌then◌else◌, nat_lt}
use Rattle.std.proofs.Common.{◌≡◌, ◌<◌, ◌≤◌, ◌+◌, true, false, Some, length, map, drop, slice_get, refl, sym, subst, ap, arith, rules, ◌∙◌}
use Rattle.std.proofs.lemmas.Bool.Decides.{nat_tests}
use Rattle.std.proofs.lemmas.List.{length-map}
use Rattle.std.proofs.lemmas.Option.{slice_get_read, slice_get_within, get_or_from_slice_get}
use Rattle.can_bus.specs.declared.bus.play_disturbed.Progress.{Progress}
use Rattle.can_bus.specs.declared.offer.Offer.{Offer}
use Rattle.can_bus.specs.Offers.{all_made, is_full, made, refused_at}
use Rattle.can_bus.specs.Walks.{IsReached}
use Rattle.can_bus.proofs.OfferLemmas.{IsWithin, within-first, within-more, within-last, front_none, next_made, rest_none, length-made, one_refused, none_refused, one_at_most}
use Rattle.can_bus.proofs.bus.Bus.make_all.Goals as goal
use Rattle.can_bus.proofs.bus.Bus.make_all.Goals.{then-not-make, else-not-make}

pub loop-progress-init : goal.loop-progress-init
loop-progress-init g c =
    let front = front_none c.args.offers.now c.args.progress.now.place c.args.time (map g.P.Port.port c.args.self.now.ports.items)
    (λ n o before at. let h : o.time < c.args.time = c.requires.reached.passed n o before at in omega arith) in
    record {
      within = within-first c.args.offers.now c.args.progress.now.place c.args.time c.requires.reached;
      ports = front.0;
      count = ap (λ k. c.args.progress.now.refused + k) front.1;
      size = refl;
      rest = refl;
      refused = c.requires.refused;
    }

pub make-requires : goal.make-requires
make-requires g c =
    let offer = c.index-offers-progress-in-loop-progress.result in
    let there : slice_get c.args.offers.now c.loop-progress.progress.place ≡ Some c.index-offers-progress-in-loop-progress.result =
    slice_get_read c.args.offers.now _ _ offer refl c.loop-progress-test.true c.index-offers-progress-in-loop-progress.is in
    let named : nat_lt c.index-offers-progress-in-loop-progress.result.node (length c.args.self.now.ports.items) ≡ true = (c.requires.offered c.loop-progress.progress.place offer there).1 in
    let size : length c.loop-progress.self.ports.items ≡ length c.args.self.now.ports.items = c.loop-progress.invariant.size in
    let within : c.index-offers-progress-in-loop-progress.result.node < length c.args.self.now.ports.items = grind (arith, nat_tests) in
    record { named = omega arith }

pub loop-progress-preserved : goal.loop-progress-preserved
loop-progress-preserved g c =
    let S = g.P.Port.port in
    let offers = c.args.offers.now in
    let place = c.loop-progress.progress.place in
    let offer = c.index-offers-progress-in-loop-progress.result in
    let ports = map g.P.Port.port c.loop-progress.self.ports.items in
    let there : slice_get c.args.offers.now c.loop-progress.progress.place ≡ Some c.index-offers-progress-in-loop-progress.result =
    slice_get_read offers _ _ offer refl c.loop-progress-test.true c.index-offers-progress-in-loop-progress.is in
    let now : c.index-offers-progress-in-loop-progress.result.time ≡ c.args.time =
    ap (λ (o : Offer). o.time) (sym (get_or_from_slice_get offers place offer c.index-offers-progress.result there)) ∙ c.if-offers-progress.true in
    let next = next_made offers place c.args.time ports offer there now in
    let place-is : c.if-not-make.progress.place ≡ c.loop-progress.progress.place = elim c.if-not-make.branch [
      | then-not-make w ↦ ap (λ (p : Progress). p.place) w.progress-is
      | else-not-make w ↦ ap (λ (p : Progress). p.place) w.progress-is
    ] in
    let count-is : c.if-not-make.progress.refused ≡ c.loop-progress.progress.refused + (if is_full offer.node ports then 1 else 0) = elim c.if-not-make.branch [
      | then-not-make w ↦
          let answer : c.make.result ≡ false = search rules in
          ap (λ (p : Progress). p.refused) w.progress-is ∙ one_refused (is_full offer.node ports) c.make.result c.loop-progress.progress.refused c.make.ensures.answer answer
      | else-not-make w ↦
          let answer : c.make.result ≡ true = search rules in
          ap (λ (p : Progress). p.refused) w.progress-is ∙ none_refused (is_full offer.node ports) c.make.result c.loop-progress.progress.refused c.make.ensures.answer answer
    ] in
    let one : (if is_full offer.node ports then 1 else 0) ≤ 1 = one_at_most (is_full offer.node ports) in
    let rest-is : refused_at (drop (c.if-not-make.progress.place + 1) offers) c.args.time (map g.P.Port.port c.make.new.self.ports.items) ≡ refused_at (drop (place + 1) offers) c.args.time (made offer 0 ports) =
    ap (λ k. refused_at (drop (k + 1) offers) c.args.time (map g.P.Port.port c.make.new.self.ports.items)) place-is ∙ ap (refused_at (drop (place + 1) offers) c.args.time) c.make.ensures.ports in
    let before : c.loop-progress.progress.refused + refused_at (drop place offers) c.args.time ports ≡ c.args.progress.now.refused + refused_at offers c.args.time (map g.P.Port.port c.args.self.now.ports.items) =
    c.loop-progress.invariant.count in
    let here : refused_at (drop place offers) c.args.time ports ≡ (if is_full offer.node ports then 1 else 0) + refused_at (drop (place + 1) offers) c.args.time (made offer 0 ports) = next.1 in
    let few : c.loop-progress.progress.refused ≤ c.loop-progress.progress.place = c.loop-progress.invariant.refused in
    record {
      within = subst (λ k. IsWithin offers (k + 1) c.args.time) (sym place-is)
          (within-more (length c.args.self.now.ports.items) offers place c.args.time offer c.requires.offered c.loop-progress.invariant.within there now);
      ports = ap (λ k. all_made (drop (k + 1) offers) c.args.time (map g.P.Port.port c.make.new.self.ports.items)) place-is
          ∙ ap (all_made (drop (place + 1) offers) c.args.time) c.make.ensures.ports ∙ sym next.0 ∙ c.loop-progress.invariant.ports;
      count = omega arith;
      size = sym (length-map c.make.new.self.ports.items S) ∙ ap length c.make.ensures.ports ∙ length-made offer 0 ports ∙ length-map c.loop-progress.self.ports.items S ∙ c.loop-progress.invariant.size;
      rest = c.make.ensures.rest ∙ c.loop-progress.invariant.rest;
      refused = omega arith;
    }

pub returns-else-offers-progress : goal.returns-else-offers-progress
returns-else-offers-progress g c =
    let offers = c.args.offers.now in
    let place = c.loop-progress.progress.place in
    let ports = map g.P.Port.port c.loop-progress.self.ports.items in
    let reached : IsReached c.args.offers.now c.loop-progress.progress.place (c.args.time + 1) =
    within-last (length c.args.self.now.ports.items) offers place c.args.time c.requires.offered c.loop-progress.invariant.within
    (λ offer there now. c.if-offers-progress.false (ap (λ (o : Offer). o.time) (get_or_from_slice_get offers place offer c.index-offers-progress.result there) ∙ now)) in
    let none = rest_none offers place c.args.time ports (λ n o behind at. let h : c.args.time + 1 ≤ o.time = reached.ahead n o behind at in omega arith) in
    let left : refused_at (drop place offers) c.args.time ports ≡ 0 = none.1 in
    let all : c.loop-progress.progress.refused + refused_at (drop place offers) c.args.time ports ≡ c.args.progress.now.refused + refused_at offers c.args.time (map g.P.Port.port c.args.self.now.ports.items) =
    c.loop-progress.invariant.count in
    record {
      ports = sym none.0 ∙ c.loop-progress.invariant.ports;
      size = c.loop-progress.invariant.size;
      rest = c.loop-progress.invariant.rest;
      count = omega (arith, all, left);
      reached = reached;
      refused = c.loop-progress.invariant.refused;
    }

pub returns-after-loop-progress-clause-reached : goal.returns-after-loop-progress-clause-reached
returns-after-loop-progress-clause-reached g c =
    within-last (length c.args.self.now.ports.items) c.args.offers.now c.loop-progress.progress.place c.args.time c.requires.offered c.loop-progress.invariant.within
    (λ offer there now.
    let within : c.loop-progress.progress.place < length c.args.offers.now = slice_get_within c.args.offers.now c.loop-progress.progress.place offer there in omega arith)
