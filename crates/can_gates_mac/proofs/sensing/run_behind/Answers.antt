use Rattle.std.proofs.Common.{◌∙◌}
use Rattle.can_gates.proofs.Constants.{zero-kept}
use Rattle.can_gates_mac.proofs.sensing.run_behind.Goals as goal

pub returns : goal.returns
returns c = (
  c.choose.ensures.0 ∙ c.xor-differs.ensures.made.0,
  λ v keeps.
      let made = c.choose.ensures.1 v keeps in
      let differs = c.xor-differs.ensures.made.1 v made.0 in
      (differs.0, rw (differs.1, c.of.ensures v (zero-kept v c.args.circuit.now differs.0)) at made.1),
)
