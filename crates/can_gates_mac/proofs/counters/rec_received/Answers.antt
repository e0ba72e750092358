use Rattle.std.proofs.Common.{◌∙◌, refl}
use Rattle.can_gates.proofs.Constants.{zero-kept, value-always}
use Rattle.can_gates_mac.proofs.Counts.{top_is}
use Rattle.can_gates_mac.proofs.counters.rec_received.Goals as goal

pub returns : goal.returns
returns c = (
  c.choose.ensures.number.0 ∙ c.lowered-down.ensures.number.0,
  λ v keeps.
      let made = c.choose.ensures.number.1 v keeps in
      let down = c.lowered-down.ensures.number.1 v made.0 in
      let zero_is = zero-kept v c.args.circuit.now down.0 in
      (down.0, made.1 ∙ rw (c.constant-most.ensures.number v zero_is, down.1, value-always v zero_is, top_is v zero_is c.args.rec.now 7 c.told-rec) refl),
)
