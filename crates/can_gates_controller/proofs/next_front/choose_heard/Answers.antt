use Rattle.std.proofs.Common.{◌∙◌}
use Rattle.can_gates_controller.proofs.next_front.choose_heard.Goals as goal

pub returns : goal.returns
returns c = (
  c.choose_levels-check.ensures.levels.0 ∙ c.choose-run.ensures.0 ∙ c.ite-last.ensures.made.0 ∙ c.choose-count.ensures.number.0 ∙ c.choose_levels-levels.ensures.levels.0,
  λ v keeps.
      let check = c.choose_levels-check.ensures.levels.1 v keeps in
      let run = c.choose-run.ensures.1 v check.0 in
      let last = c.ite-last.ensures.made.1 v run.0 in
      let count = c.choose-count.ensures.number.1 v last.0 in
      let levels = c.choose_levels-levels.ensures.levels.1 v count.0 in
      (levels.0, record { levels = levels.1; count = count.1; last = last.1; run = run.1; check = check.1 }),
)
