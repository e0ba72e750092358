use Rattle.std.proofs.Common.{◌≡◌, ◌%◌, ◌^◌, ◌∙◌, get_or, refl, arith, length, ◌<◌}
use Rattle.std.proofs.lemmas.List.{length-set}
use Rattle.std.specs.Prelude.{◌==◌, ◌&&◌, ◌||◌}
use Rattle.can_gates.specs.Circuit.{value, never}
use Rattle.can_gates.specs.Words.{number}
use Rattle.can_gates.proofs.Constants.{zero-kept}
use Rattle.can_gates_controller.proofs.FrontPlaces.{written_place}
use Rattle.can_gates_controller.proofs.front.written.Goals as goal

pub loop-place-preserved : goal.loop-place-preserved
loop-place-preserved c =
    let l = c.loop-place in
    let within : l.place < length l.all = omega (arith, c.loop-place-test.true, l.auto.place-end, l.invariant.0) in
    let count = c.args.count.now in
    let levels = c.args.levels.now in (
      length-set l.all l.place c.or.result ∙ l.invariant.0,
      (
        c.or.ensures.made.0 ∙ c.and-new.ensures.made.0 ∙ c.equals-here.ensures.made.0 ∙ l.invariant.1.0,
        λ v keeps.
            let both = c.or.ensures.made.1 v keeps in
            let new = c.and-new.ensures.made.1 v both.0 in
            let here = c.equals-here.ensures.made.1 v new.0 in
            let before = l.invariant.1.1 v here.0 in
            let zero_is = zero-kept v c.args.circuit.now before.0 in
            let low : l.place % 2 ^ 7 ≡ l.place = omega (arith, c.loop-place-test.true, l.auto.place-end) in
            let is = both.1 ∙ rw (new.1, here.1, c.constant-number.ensures.number v zero_is, low) refl in
            (before.0, λ p h. written_place v (λ q. value v (get_or levels q never) || ((number v count == q) && value v c.args.level)) l.all c.or.result l.place p within is before.1 h),
      ),
    )

pub returns : goal.returns
returns c =
    let l = c.loop-place in
    let e : l.place ≡ 103 = omega (arith, c.loop-place-test.false, l.auto.place-end) in (
      l.invariant.1.0,
      λ v keeps.
          let whole = l.invariant.1.1 v keeps in
          (whole.0, λ p h. whole.1 p (rw e h)),
    )
