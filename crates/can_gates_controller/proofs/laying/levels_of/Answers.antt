use Rattle.std.proofs.Common.{◌∙◌}
use Rattle.can_gates.proofs.Constants.{zero-kept}
use Rattle.can_gates_controller.proofs.Laid.{laid_is}
use Rattle.can_gates_controller.proofs.laying.levels_of.Goals as goal

pub returns : goal.returns
returns c = (
  c.lay_out.ensures.0 ∙ c.clear_behind-bytes.ensures.0,
  λ v keeps.
      let made = c.lay_out.ensures.1 v keeps in
      let cleared = c.clear_behind-bytes.ensures.1 v made.0 in
      (cleared.0, laid_is v (zero-kept v c.args.circuit.now cleared.0) c.args.fields.now c.lay_out.result c.turn_bytes-levels.result c.clear_behind-bytes.result cleared.1 c.turn_bytes-levels.ensures made.1),
)
