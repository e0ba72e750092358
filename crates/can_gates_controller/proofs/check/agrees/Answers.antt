use Rattle.std.proofs.Common.{◌≡◌, ◌∙◌, not, get_or, refl, ap, arith, add-one}
use Rattle.can_gates.specs.Circuit.{value, never}
use Rattle.can_gates.proofs.Constants.{zero-kept, value-never}
use Rattle.can_gates_controller.proofs.Checks.{agree_is}
use Rattle.can_gates_controller.proofs.check.agrees.Goals as goal

pub loop-place-init : goal.loop-place-init
loop-place-init c = (refl, λ v keeps. (keeps, value-never v (zero-kept v c.args.circuit.now keeps)))

pub loop-place-preserved : goal.loop-place-preserved
loop-place-preserved c =
    let l = c.loop-place in (
      c.or-some.ensures.made.0 ∙ l.invariant.0,
      λ v keeps.
          let some = c.or-some.ensures.made.1 v keeps in
          let before = l.invariant.1 v some.0 in
          (before.0, rw (add-one l.place) (some.1 ∙ rw before.1 refl)),
    )

pub returns : goal.returns
returns c =
    let l = c.loop-place in
    let e : l.place ≡ 15 = omega (arith, c.loop-place-test.false, l.auto.place-end) in (
      l.invariant.0,
      λ v keeps.
          let whole = l.invariant.1 v keeps in
          (whole.0, λ u long held. c.opposite.ensures.value v ∙ ap not (rw e at whole.1) ∙ agree_is (λ p. value v (get_or c.args.check.now p never)) u long held),
    )
