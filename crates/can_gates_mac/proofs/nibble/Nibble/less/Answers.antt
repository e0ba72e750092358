use Rattle.std.proofs.Common.{◌∙◌, ap}
use Rattle.std.specs.Prelude.{nat_lt}
use Rattle.can_gates.proofs.Constants.{zero-kept}
use Rattle.can_gates_mac.specs.Nibbles.{nibble}
use Rattle.can_gates_mac.proofs.nibble.Nibble.less.Goals as goal

pub returns : goal.returns
unfolding nibble
returns c = (
  c.less.ensures.made.0,
  λ v keeps.
      let made = c.less.ensures.made.1 v keeps in
      (made.0, made.1 ∙ ap (λ n. nat_lt (nibble v c.args.self) n) (c.of-most.ensures v (zero-kept v c.args.circuit.now made.0))),
)
