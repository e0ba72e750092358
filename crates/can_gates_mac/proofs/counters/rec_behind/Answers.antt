use Rattle.std.proofs.Common.{◌<◌, ◌∙◌}
use Rattle.can_gates.specs.Circuit.{value}
use Rattle.can_gates.specs.Words.{number}
use Rattle.can_gates.proofs.Constants.{zero-kept}
use Rattle.can_gates.proofs.WordNumbers.{number-lt}
use Rattle.can_gates_mac.specs.Nibbles.{nibble}
use Rattle.can_gates_mac.proofs.NibbleBits.{nibble-bits}
use Rattle.can_gates_mac.proofs.Counts.{by_1_or_8, rec_bits}
use Rattle.can_gates_mac.proofs.counters.rec_behind.Goals as goal

pub returns-clause-places : goal.returns-clause-places
returns-clause-places c = c.choose.ensures.places

pub returns-clause-rec : goal.returns-clause-rec
returns-clause-rec c = (
  c.choose.ensures.number.0 ∙ c.rec_received-received.ensures.0 ∙ c.raised-up.ensures.number.0 ∙ c.and-good.ensures.made.0 ∙ c.and-by_1.ensures.made.0 ∙ c.and-odd.ensures.made.0 ∙ c.and-by_8.ensures.made.0,
  λ v keeps.
      let made = c.choose.ensures.number.1 v keeps in
      let received = c.rec_received-received.ensures.1 v made.0 in
      let up = c.raised-up.ensures.number.1 v received.0 in
      let good = c.and-good.ensures.made.1 v up.0 in
      let by_1 = c.and-by_1.ensures.made.1 v good.0 in
      let odd = c.and-odd.ensures.made.1 v by_1.0 in
      let by_8 = c.and-by_8.ensures.made.1 v odd.0 in
      let n = c.args.cause in
      let zero_is = zero-kept v c.args.circuit.now by_8.0 in
      let small : number v c.args.rec.now < 256 = rw c.told-rec at (number-lt v c.args.rec.now) in
      let risen = rw (by_1_or_8 v zero_is c.and-by_1.result c.and-by_8.result) at up.1 in
      (by_8.0, λ few. made.1 ∙ rw (good.1, received.1, risen, by_1.1, odd.1, by_8.1, c.opposite.ensures.value v, c.opposite-2.ensures.value v, c.opposite-3.ensures.value v) (rec_bits (value v n.ones) (value v n.twos) (value v n.fours) (value v n.eights) (nibble v n) (number v c.args.rec.now) (nibble-bits v n) few small)),
)
