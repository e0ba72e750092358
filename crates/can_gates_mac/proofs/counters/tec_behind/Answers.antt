use Rattle.std.proofs.Common.{◌∙◌}
use Rattle.can_gates.specs.Circuit.{value}
use Rattle.can_gates.specs.Words.{number}
use Rattle.can_gates.proofs.Constants.{zero-kept}
use Rattle.can_gates_mac.specs.Nibbles.{nibble}
use Rattle.can_gates_mac.proofs.NibbleBits.{nibble-bits}
use Rattle.can_gates_mac.proofs.Counts.{by_8, tec_bits}
use Rattle.can_gates_mac.proofs.counters.tec_behind.Goals as goal

pub returns-clause-places : goal.returns-clause-places
returns-clause-places c = c.lowered.ensures.places

pub returns-clause-tec : goal.returns-clause-tec
returns-clause-tec c = (
  c.lowered.ensures.number.0 ∙ c.raised-up.ensures.number.0 ∙ c.and-falls.ensures.made.0 ∙ c.and-rises.ensures.made.0,
  λ v keeps.
      let made = c.lowered.ensures.number.1 v keeps in
      let up = c.raised-up.ensures.number.1 v made.0 in
      let falls = c.and-falls.ensures.made.1 v up.0 in
      let rises = c.and-rises.ensures.made.1 v falls.0 in
      let n = c.args.cause in
      let zero_is = zero-kept v c.args.circuit.now rises.0 in
      let risen = rw (by_8 v zero_is c.and-rises.result) at up.1 in
      (rises.0, λ few small. made.1 ∙ rw (risen, falls.1, rises.1, c.opposite.ensures.value v) (tec_bits (value v n.ones) (value v n.twos) (value v n.fours) (value v n.eights) (nibble v n) (number v c.args.tec.now) (nibble-bits v n) few small)),
)
