use Rattle.std.proofs.Common.{◌≡◌, ◌∙◌, length, get_or, refl, arith, ◌<◌}
use Rattle.std.proofs.lemmas.List.{length-set}
use Rattle.std.specs.Prelude.{◌==◌, ◌&&◌, ◌||◌}
use Rattle.can_gates.specs.Circuit.{value, never}
use Rattle.can_gates.proofs.Constants.{zero-kept}
use Rattle.can_gates_controller.specs.Listed.{register_list}
use Rattle.can_gates_controller.proofs.FrontPlaces.{written_place}
use Rattle.can_gates_controller.proofs.stepping.merge.Goals as goal

pub loop-place-preserved : goal.loop-place-preserved
loop-place-preserved c =
    let l = c.loop-place in
    let next = register_list c.args.next.now in
    let held = register_list c.args.held.now in
    let within : l.place < length l.all = omega (arith, c.loop-place-test.true, l.auto.place-end, l.invariant.0) in (
      length-set l.all l.place c.or.result ∙ l.invariant.0,
      (
        c.or.ensures.made.0 ∙ c.or-either.ensures.made.0 ∙ c.and-old.ensures.made.0 ∙ c.and-new.ensures.made.0 ∙ l.invariant.1.0,
        λ v keeps.
            let taken = c.or.ensures.made.1 v keeps in
            let either = c.or-either.ensures.made.1 v taken.0 in
            let old = c.and-old.ensures.made.1 v either.0 in
            let new = c.and-new.ensures.made.1 v old.0 in
            let before = l.invariant.1.1 v new.0 in
            let zero_is = zero-kept v c.args.circuit.now before.0 in
            let is = taken.1 ∙ rw (either.1, old.1, new.1, c.register_at.ensures, c.register_at-in-loop-place.ensures, c.at_first.ensures v zero_is) refl in
            (before.0, λ p h. written_place v (λ q. ((value v c.args.passes && value v (get_or next q never)) || (value v c.args.rests && value v (get_or held q never))) || ((q == 0) && value v c.args.integrating)) l.all c.or.result l.place p within is before.1 h),
      ),
    )

pub returns-clause-places : goal.returns-clause-places
returns-clause-places c = c.loop-place.invariant.0

pub returns-clause-merged : goal.returns-clause-merged
returns-clause-merged c =
    let l = c.loop-place in
    let e : l.place ≡ 277 = omega (arith, c.loop-place-test.false, l.auto.place-end) in (
      l.invariant.1.0,
      λ v keeps.
          let whole = l.invariant.1.1 v keeps in
          (whole.0, λ p h. whole.1 p (rw e h)),
    )
