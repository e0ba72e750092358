use Rattle.std.proofs.Common.{◌∙◌}
use Rattle.can_gates.proofs.Constants.{zero-kept}
use Rattle.can_gates_controller.proofs.Phases.{followed}
use Rattle.can_gates_controller.proofs.next_front.front_behind.Goals as goal

pub returns : goal.returns
returns c = (
  c.choose_heard.ensures.0 ∙ c.choose_heard-kept.ensures.0,
  λ v keeps.
      let made = c.choose_heard.ensures.1 v keeps in
      let kept = c.choose_heard-kept.ensures.1 v made.0 in
      let zero_is = zero-kept v c.args.circuit.now kept.0 in
      (kept.0, λ p q role new waiting x phase within held hears is. followed v c.choose_heard.result c.choose_heard-kept.result c.first_heard-first.result c.args.heard.now c.args.next.now c.args.within p q role new waiting x phase within held hears is made.1 kept.1 (c.first_heard-first.ensures v zero_is)),
)
