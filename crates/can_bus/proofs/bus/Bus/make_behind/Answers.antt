use Rattle.std.proofs.Common.{◌≡◌, ◌≤◌, ◌<◌, ◌+◌, ◌-◌, length, map, refl, sym, subst, ap, arith, inl, inr, ◌∙◌}
use Rattle.std.proofs.lemmas.Bool.{cases_lt}
use Rattle.std.proofs.lemmas.Option.{slice_get_within}
use Rattle.can_bus.specs.Offers.{AreOffered, all_made, refused_at}
use Rattle.can_bus.specs.Passing.{made_behind, refused_behind}
use Rattle.can_bus.specs.Walks.{IsReached}
use Rattle.can_bus.proofs.OfferLemmas.{reached-last, reached-next}
use Rattle.can_bus.proofs.OpenFrames.{behind-end, behind-next}
use Rattle.can_bus.proofs.bus.Bus.make_behind.Goals as goal

pub loop-time-init : goal.loop-time-init
loop-time-init g c =
    let none : c.args.begun - c.args.begun ≡ 0 = omega arith in
    record {
      begun = omega arith;
      early = c.requires.later;
      reached = c.requires.reached;
      ports = ap (λ n. made_behind c.args.offers.now c.args.begun n (map g.P.Port.port c.args.self.now.ports.items)) (sym none);
      count = (let e : c.args.progress.now.refused ≡ c.args.progress.now.refused + 0 = omega arith in e)
          ∙ ap (λ n. c.args.progress.now.refused + refused_behind c.args.offers.now c.args.begun n (map g.P.Port.port c.args.self.now.ports.items)) (sym none);
      refused = c.requires.refused;
      size = refl;
      rest = refl;
    }

pub make_all-requires-clause-offered : goal.make_all-requires-clause-offered
make_all-requires-clause-offered g c = subst (λ n. AreOffered n c.args.offers.now) (sym c.loop-time.invariant.size) c.requires.offered

-- the offers before the next, and its time
reaches : (g : _) (c : goal.After-make_all-arg-in-Some-1 g) → (c.loop-time.made < c.in-Some.time) × IsReached c.args.offers.now c.loop-time.progress.place c.in-Some.time
reaches g c =
    let next = c.in-Some.ensures.some in
    reached-next (length c.args.self.now.ports.items) c.args.offers.now c.loop-time.progress.place c.loop-time.made c.in-Some.time next.0 c.requires.offered c.loop-time.invariant.reached next.1 next.2

pub make_all-requires-clause-reached : goal.make_all-requires-clause-reached
make_all-requires-clause-reached g c = (reaches g c).1

pub make_all-requires-clause-refused : goal.make_all-requires-clause-refused
make_all-requires-clause-refused g c = c.loop-time.invariant.refused

pub loop-time-smaller : goal.loop-time-smaller
loop-time-smaller g c =
    let next = c.in-Some.ensures.some in
    let at : next.0.time ≡ c.in-Some.time = next.2 in
    let inside : c.loop-time.progress.place < length c.args.offers.now = slice_get_within c.args.offers.now c.loop-time.progress.place next.0 next.1 in
    elim (cases_lt c.loop-time.progress.place c.make_all.new.progress.place) [
      | inl more ↦ omega arith
      | inr less ↦ let h : c.in-Some.time + 1 ≤ next.0.time = c.make_all.ensures.reached.ahead c.loop-time.progress.place next.0 less next.1 in absurd (omega arith)
    ]

pub loop-time-preserved : goal.loop-time-preserved
loop-time-preserved g c =
    let offers = c.args.offers.now in
    let first = map g.P.Port.port c.args.self.now.ports.items in
    let next = c.in-Some.ensures.some in
    let begun : c.args.begun ≤ c.loop-time.made = c.loop-time.invariant.begun in
    let reach = reached-next (length c.args.self.now.ports.items) offers c.loop-time.progress.place c.loop-time.made c.in-Some.time next.0 c.requires.offered c.loop-time.invariant.reached next.1 next.2 in
    let later : c.loop-time.made < c.in-Some.time = reach.0 in
    let goes = behind-next offers c.loop-time.progress.place c.args.begun c.loop-time.made c.in-Some.time first begun later c.loop-time.invariant.reached reach.1 in
    let count : c.loop-time.progress.refused ≡ c.args.progress.now.refused + refused_behind offers c.args.begun (c.loop-time.made - c.args.begun) first = c.loop-time.invariant.count in
    let now : refused_at offers c.in-Some.time (map g.P.Port.port c.loop-time.self.ports.items) ≡ refused_at offers c.in-Some.time (made_behind offers c.args.begun (c.loop-time.made - c.args.begun) first) =
    ap (refused_at offers c.in-Some.time) c.loop-time.invariant.ports in
    let made : c.make_all.new.progress.refused ≡ c.loop-time.progress.refused + refused_at offers c.in-Some.time (map g.P.Port.port c.loop-time.self.ports.items) = c.make_all.ensures.count in
    let sum = goes.1 in
    record {
      begun = omega (arith, begun, later);
      early = c.in-Some.ensures.early;
      reached = c.make_all.ensures.reached;
      ports = c.make_all.ensures.ports ∙ ap (all_made offers c.in-Some.time) c.loop-time.invariant.ports ∙ sym goes.0;
      count = omega (arith, made, now, count, sum);
      refused = c.make_all.ensures.refused;
      size = c.make_all.ensures.size ∙ c.loop-time.invariant.size;
      rest = c.make_all.ensures.rest ∙ c.loop-time.invariant.rest;
    }

pub returns : goal.returns
returns g c =
    let offers = c.args.offers.now in
    let first = map g.P.Port.port c.args.self.now.ports.items in
    let reached : IsReached c.args.offers.now c.loop-time.progress.place c.args.end =
    reached-last (length c.args.self.now.ports.items) offers c.loop-time.progress.place c.loop-time.made c.args.end c.requires.offered c.loop-time.invariant.reached c.loop-time.invariant.early (λ offer there. c.in_default.ensures.none refl offer there) in
    let made = behind-end offers c.loop-time.progress.place c.args.begun c.loop-time.made c.args.end first c.loop-time.invariant.begun c.loop-time.invariant.early c.loop-time.invariant.reached reached in
    record {
      ports = c.loop-time.invariant.ports ∙ sym made.0;
      size = c.loop-time.invariant.size;
      rest = c.loop-time.invariant.rest;
      count = c.loop-time.invariant.count ∙ ap (λ n. c.args.progress.now.refused + n) (sym made.1);
      reached = reached;
      refused = c.loop-time.invariant.refused;
    }
