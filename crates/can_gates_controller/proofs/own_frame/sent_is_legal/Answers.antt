use Rattle.std.proofs.Common.{◌∙◌, ◌<◌, get_or, refl, sym, arith}
use Rattle.can_gates.specs.Circuit.{value, never}
use Rattle.can_gates.specs.Words.{number}
use Rattle.can_gates.proofs.Constants.{zero-kept, value-never, value-always}
use Rattle.can_gates_controller.proofs.Checks.{above_is}
use Rattle.can_gates_controller.proofs.OwnLegal.{same_place}
use Rattle.can_gates_controller.proofs.own_frame.sent_is_legal.Goals as goal

pub loop-place-init : goal.loop-place-init
loop-place-init c = (
  refl,
  λ v keeps.
      let zero_is = zero-kept v c.args.circuit.now keeps in (
        keeps,
        (
          value-never v zero_is ∙ sym (above_is (number v c.args.heard.now.count) 0 (omega arith)),
          (value-never v zero_is ∙ sym (above_is (number v c.args.end.now) 0 (omega arith)), λ h. value-always v zero_is),
        ),
      ),
)

pub loop-place-preserved : goal.loop-place-preserved
loop-place-preserved c =
    let l = c.loop-place in
    let heard = c.args.heard.now in
    let small : l.place < 103 = omega (arith, c.loop-place-test.true, l.auto.place-end) in (
      c.and-legal.ensures.made.0 ∙ c.and-wrong.ensures.made.0 ∙ c.xor-differ.ensures.made.0 ∙ c.or-behind.ensures.made.0 ∙ c.is_past-unused.ensures.0 ∙ c.is_past-unheard.ensures.0 ∙ l.invariant.0,
      λ v keeps.
          let legal = c.and-legal.ensures.made.1 v keeps in
          let wrong = c.and-wrong.ensures.made.1 v legal.0 in
          let differs = c.xor-differ.ensures.made.1 v wrong.0 in
          let behind = c.or-behind.ensures.made.1 v differs.0 in
          let unused = c.is_past-unused.ensures.1 v behind.0 in
          let unheard = c.is_past-unheard.ensures.1 v unused.0 in
          let before = l.invariant.1 v unheard.0 in
          let is_unheard = unheard.1 before.1.0 in
          let is_unused = unused.1 before.1.1.0 in
          let a = value v (get_or heard.levels l.place never) in
          let b = value v (get_or c.args.own.now l.place never) in (
            before.0,
            (
              is_unheard,
              (
                is_unused,
                λ h. legal.1 ∙ rw (before.1.1.1 h, c.opposite-in-loop-place.ensures.value v, wrong.1, c.opposite.ensures.value v, behind.1, differs.1, is_unheard, is_unused) (same_place (number v heard.count) (number v c.args.end.now) l.place a b (λ m n. h l.place m n small)),
              ),
            ),
          ),
    )

pub returns : goal.returns
returns c =
    let l = c.loop-place in (
      l.invariant.0,
      λ v keeps.
          let whole = l.invariant.1 v keeps in
          (whole.0, λ h. whole.1.1.1 h),
    )
