use Rattle.std.proofs.Common.{◌∙◌, ◌++◌, ◌∷◌, []}
use Rattle.can_gates.specs.Circuit.{value}
use Rattle.can_gates_controller.proofs.FrontPlaces.{chosen_check}
use Rattle.can_gates_controller.proofs.check.next_check.Goals as goal

pub returns : goal.returns
returns c = (
  c.choose_levels.ensures.levels.0 ∙ c.divide-more.ensures.0,
  λ v keeps.
      let made = c.choose_levels.ensures.levels.1 v keeps in
      let more = c.divide-more.ensures.1 v made.0 in
      (more.0, λ u x held is p h. made.1 p h ∙ chosen_check (value v c.args.plain) (u ++ x ∷ []) u p _ _ (more.1 u x held is p h) (held p h)),
)
