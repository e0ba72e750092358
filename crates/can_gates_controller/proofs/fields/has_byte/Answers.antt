use Rattle.std.proofs.Common.{◌∙◌, ap}
use Rattle.std.specs.Prelude.{nat_lt}
use Rattle.can_gates.specs.Circuit.{value}
use Rattle.can_gates.proofs.Constants.{zero-kept}
use Rattle.can_gates_mac.specs.Nibbles.{nibble}
use Rattle.can_gates_controller.proofs.Cleared.{has_byte_is}
use Rattle.can_gates_controller.proofs.fields.has_byte.Goals as goal

pub returns : goal.returns
unfolding nibble
returns c = (
  c.and.ensures.made.0 ∙ c.less-below.ensures.made.0,
  λ v keeps.
      let made = c.and.ensures.made.1 v keeps in
      let below = c.less-below.ensures.made.1 v made.0 in
      let dlc = nibble v c.args.dlc in
      let test = below.1 ∙ ap (λ n. nat_lt n dlc) (c.of-number.ensures v (zero-kept v c.args.circuit.now below.0)) in
      (below.0, made.1 ∙ rw (test, c.opposite.ensures.value v) (has_byte_is c.args.byte (value v c.args.remote) dlc c.requires)),
)
