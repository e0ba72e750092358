use Rattle.std.proofs.Common.{◌∙◌}
use Rattle.can_gates.specs.Circuit.{value}
use Rattle.can_gates_mac.proofs.NibbleBits.{chosen_nibble}
use Rattle.can_gates_mac.proofs.nibble.Nibble.choose.Goals as goal

pub returns : goal.returns
returns c = (
  c.ite-eights.ensures.made.0 ∙ c.ite-fours.ensures.made.0 ∙ c.ite-twos.ensures.made.0 ∙ c.ite-ones.ensures.made.0,
  λ v keeps.
      let eights = c.ite-eights.ensures.made.1 v keeps in
      let fours = c.ite-fours.ensures.made.1 v eights.0 in
      let twos = c.ite-twos.ensures.made.1 v fours.0 in
      let ones = c.ite-ones.ensures.made.1 v twos.0 in
      (ones.0, chosen_nibble v (value v c.args.test) c.args.a c.args.b _ ones.1 twos.1 fours.1 eights.1),
)
