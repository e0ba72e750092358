use Rattle.std.proofs.Common.{◌∙◌, refl}
use Rattle.can_gates_controller.proofs.Owned.{frame_parts}
use Rattle.can_gates_controller.proofs.whole.next_own.Goals as goal

pub returns : goal.returns
returns c = (
  c.choose_levels.ensures.levels.0 ∙ c.or-busy.ensures.made.0,
  λ v keeps.
      let made = c.choose_levels.ensures.levels.1 v keeps in
      let busy = c.or-busy.ensures.made.1 v made.0 in
      (busy.0, λ p place at h. made.1 place h ∙ rw (busy.1, at.part, at.end, frame_parts p) refl),
)
