use Rattle.std.proofs.Common.{◌∙◌}
use Rattle.can_gates.specs.Circuit.{value}
use Rattle.can_gates.specs.Words.{number}
use Rattle.can_gates.proofs.Constants.{zero-kept}
use Rattle.can_gates_mac.proofs.Drives.{in_front}
use Rattle.can_gates_mac.proofs.driving.arbitrates.Goals as goal

pub returns : goal.returns
returns c = (
  c.less.ensures.made.0 ∙ c.choose-bound.ensures.number.0,
  λ v keeps.
      let made = c.less.ensures.made.1 v keeps in
      let bound = c.choose-bound.ensures.number.1 v made.0 in
      let zero_is = zero-kept v c.args.circuit.now bound.0 in
      (bound.0, made.1 ∙ rw (bound.1, c.constant-long.ensures.number v zero_is, c.constant-short.ensures.number v zero_is) (in_front (number v c.args.count.now) (value v c.args.extended))),
)
