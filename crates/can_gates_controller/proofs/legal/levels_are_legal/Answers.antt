use Rattle.std.proofs.Common.{◌∙◌, refl, sym, arith}
use Rattle.can_gates.specs.Words.{number}
use Rattle.can_gates.proofs.Constants.{zero-kept, value-never, value-always}
use Rattle.can_gates_controller.proofs.Checks.{above_is}
use Rattle.can_gates_controller.proofs.LegalStates.{dominant_behind}
use Rattle.can_gates_controller.proofs.legal.levels_are_legal.Goals as goal

pub loop-place-init : goal.loop-place-init
loop-place-init c = (
  refl,
  λ v keeps.
      let zero_is = zero-kept v c.args.circuit.now keeps in
      (keeps, (value-never v zero_is ∙ sym (above_is (number v c.args.count.now) 0 (omega arith)), λ u levels count. value-always v zero_is)),
)

pub loop-place-preserved : goal.loop-place-preserved
loop-place-preserved c =
    let l = c.loop-place in (
      c.and-legal.ensures.made.0 ∙ c.and-wrong.ensures.made.0 ∙ c.is_past-behind.ensures.0 ∙ l.invariant.0,
      λ v keeps.
          let legal = c.and-legal.ensures.made.1 v keeps in
          let wrong = c.and-wrong.ensures.made.1 v legal.0 in
          let behind = c.is_past-behind.ensures.1 v wrong.0 in
          let before = l.invariant.1 v behind.0 in
          let past = behind.1 before.1.0 in (
            before.0,
            (past, λ u levels count. legal.1 ∙ rw (before.1.1 u levels count, c.opposite.ensures.value v, wrong.1, past, count, levels l.place (omega (arith, c.loop-place-test.true, l.auto.place-end))) (dominant_behind u l.place)),
          ),
    )

pub returns : goal.returns
returns c =
    let l = c.loop-place in (
      l.invariant.0,
      λ v keeps.
          let whole = l.invariant.1 v keeps in
          (whole.0, λ u levels count. whole.1.1 u levels count),
    )
