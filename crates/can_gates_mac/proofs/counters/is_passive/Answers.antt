use Rattle.std.proofs.Common.{◌∙◌, refl}
use Rattle.can_gates.proofs.Constants.{zero-kept}
use Rattle.can_gates_mac.proofs.Counts.{top_is, top_two}
use Rattle.can_gates_mac.proofs.counters.is_passive.Goals as goal

pub returns : goal.returns
returns c = (
  c.or.ensures.made.0 ∙ c.or-high.ensures.made.0,
  λ v keeps.
      let made = c.or.ensures.made.1 v keeps in
      let high = c.or-high.ensures.made.1 v made.0 in
      let zero_is = zero-kept v c.args.circuit.now high.0 in
      (high.0, made.1 ∙ rw (high.1, top_two v zero_is c.args.tec.now 7 c.told-tec, top_is v zero_is c.args.rec.now 7 c.told-rec) refl),
)
