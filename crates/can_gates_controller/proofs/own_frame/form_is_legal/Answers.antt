use Rattle.std.proofs.Common.{◌≡◌, ◌∙◌, ℕ, ◌<◌, get_or, arith}
use Rattle.can_frame.specs.Levels.{is_recessive}
use Rattle.can_wire.specs.Layout.{level_at}
use Rattle.can_wire.specs.Wire.{head}
use Rattle.can_gates.specs.Circuit.{value, never}
use Rattle.can_gates_controller.proofs.OwnLegal.{head_form}
use Rattle.can_gates_controller.proofs.own_frame.form_is_legal.Goals as goal

pub returns : goal.returns
returns c = (
  c.and.ensures.made.0 ∙ c.ite-format.ensures.made.0 ∙ c.and-extended.ensures.made.0 ∙ c.and-reserved.ensures.made.0,
  λ v keeps.
      let made = c.and.ensures.made.1 v keeps in
      let format = c.ite-format.ensures.made.1 v made.0 in
      let extended = c.and-extended.ensures.made.1 v format.0 in
      let reserved = c.and-reserved.ensures.made.1 v extended.0 in (
        reserved.0,
        λ f is own.
            let at : (p : ℕ) → p < 103 → value v (get_or c.args.own.now p never) ≡ is_recessive (level_at (head f) p) = own in
            made.1 ∙ rw (format.1, extended.1, reserved.1, c.opposite.ensures.value v, c.opposite-2.ensures.value v, c.opposite-3.ensures.value v, c.opposite-4.ensures.value v, at 0 (omega arith), at 12 (omega arith), at 13 (omega arith), at 14 (omega arith), at 33 (omega arith), at 34 (omega arith)) (head_form f is),
      ),
)
