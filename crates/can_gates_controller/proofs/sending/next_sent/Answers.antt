use Rattle.std.proofs.Common.{◌∙◌, get_or, length, refl, arith}
use Rattle.can_gates.specs.Circuit.{value, never}
use Rattle.can_gates_controller.proofs.Own.{next_own_level}
use Rattle.can_gates_controller.proofs.sending.next_sent.Goals as goal

pub returns : goal.returns
returns c = (
  c.ite.ensures.made.0 ∙ c.less-of_head.ensures.made.0 ∙ c.head_length-end.ensures.0 ∙ c.select-level.ensures.made.0,
  λ v keeps.
      let made = c.ite.ensures.made.1 v keeps in
      let of_head = c.less-of_head.ensures.made.1 v made.0 in
      let end = c.head_length-end.ensures.1 v of_head.0 in
      let level = c.select-level.ensures.made.1 v end.0 in (
        level.0,
        λ f front is own held sent.
            made.1
            ∙ next_own_level f is front.unstuffed (length front.unstuffed) (value v c.less-of_head.result) (value v c.select-level.result) (value v (get_or c.args.heard.now.check 0 never)) sent
            (of_head.1 ∙ rw (held.count, end.1 f is own) refl)
            (λ h. level.1 ∙ rw held.count (own (length front.unstuffed) h))
            (held.check 0 (omega arith)),
      ),
)
