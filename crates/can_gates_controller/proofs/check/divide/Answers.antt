use Rattle.std.proofs.Common.{◌∙◌, refl, arith}
use Rattle.can_gates_controller.proofs.check.divide.Goals as goal

pub returns : goal.returns
returns c = (
  c.divided.ensures.0 ∙ c.xor-fed.ensures.made.0,
  λ v keeps.
      let made = c.divided.ensures.1 v keeps in
      let fed = c.xor-fed.ensures.made.1 v made.0 in
      (fed.0, λ u x held is. made.1 u x held (fed.1 ∙ rw (held 0 (omega arith), is) refl)),
)
