use Rattle.std.proofs.Common.{◌∙◌}
use Rattle.can_gates.proofs.Constants.{zero-kept}
use Rattle.can_gates_mac.specs.Nibbles.{nibble}
use Rattle.can_gates_controller.proofs.Phases.{part_at, end_at}
use Rattle.can_gates_controller.proofs.next_front.within.Goals as goal

pub returns : goal.returns
unfolding nibble
returns c = (
  c.select-end.ensures.made.0 ∙ c.select-part.ensures.made.0,
  λ v keeps.
      let end = c.select-end.ensures.made.1 v keeps in
      let part = c.select-part.ensures.made.1 v end.0 in
      let zero_is = zero-kept v c.args.circuit.now part.0 in
      (part.0, λ p phase. record { part = part.1 ∙ rw phase (part_at v zero_is p); end = end.1 ∙ rw phase (end_at v zero_is p) }),
)
