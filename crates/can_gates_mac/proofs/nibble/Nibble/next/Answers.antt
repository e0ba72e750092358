use Rattle.std.proofs.Common.{◌∙◌}
use Rattle.can_gates.specs.Circuit.{value}
use Rattle.can_gates_mac.proofs.NibbleBits.{nibble_is, nibble-bits, next_bits}
use Rattle.can_gates_mac.proofs.nibble.Nibble.next.Goals as goal

pub returns : goal.returns
returns c = (
  c.xor-eights.ensures.made.0 ∙ c.and-three.ensures.made.0 ∙ c.xor-fours.ensures.made.0 ∙ c.and-two.ensures.made.0 ∙ c.xor-twos.ensures.made.0,
  λ v keeps.
      let eights = c.xor-eights.ensures.made.1 v keeps in
      let three = c.and-three.ensures.made.1 v eights.0 in
      let fours = c.xor-fours.ensures.made.1 v three.0 in
      let two = c.and-two.ensures.made.1 v fours.0 in
      let twos = c.xor-twos.ensures.made.1 v two.0 in
      let n = c.args.self in
      (twos.0, λ small. nibble_is v _ _ _ _ _ (c.opposite.ensures.value v) twos.1 (rw two.1 at fours.1) (rw two.1 at (rw three.1 at eights.1)) ∙ next_bits _ (value v n.ones) (value v n.twos) (value v n.fours) (value v n.eights) (nibble-bits v n) small),
)
