use Rattle.std.proofs.Common.{◌∙◌}
use Rattle.can_gates_mac.specs.Nibbles.{nibble}
use Rattle.can_gates.specs.Words.{number}
use Rattle.can_gates_controller.proofs.LegalStates.{over_fits}
use Rattle.can_gates_controller.proofs.legal.over_is_legal.Goals as goal

pub returns : goal.returns
returns c = (
  c.and.ensures.made.0 ∙ c.and-runs.ensures.made.0 ∙ c.less-few.ensures.0 ∙ c.less-none.ensures.0 ∙ c.equals-whole.ensures.made.0,
  λ v keeps.
      let made = c.and.ensures.made.1 v keeps in
      let runs = c.and-runs.ensures.made.1 v made.0 in
      let few = c.less-few.ensures.1 v runs.0 in
      let none = c.less-none.ensures.1 v few.0 in
      let whole = c.equals-whole.ensures.made.1 v none.0 in
      let heard = c.args.heard.now in
      (whole.0, λ long some short. made.1 ∙ rw (whole.1, runs.1, c.opposite.ensures.value v, none.1, few.1) (over_fits (number v c.args.length.now) (number v heard.count) (nibble v heard.run) long some short)),
)
