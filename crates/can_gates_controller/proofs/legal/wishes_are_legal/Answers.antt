use Rattle.std.proofs.Common.{◌∙◌, refl}
use Rattle.can_gates_mac.specs.Nibbles.{nibble}
use Rattle.can_gates_controller.proofs.LegalStates.{few_below}
use Rattle.can_gates_controller.proofs.legal.wishes_are_legal.Goals as goal

pub returns : goal.returns
returns c = (
  c.and.ensures.made.0 ∙ c.less-used.ensures.0 ∙ c.less-pending.ensures.0,
  λ v keeps.
      let made = c.and.ensures.made.1 v keeps in
      let used = c.less-used.ensures.1 v made.0 in
      let pending = c.less-pending.ensures.1 v used.0 in
      (pending.0, λ p u. made.1 ∙ rw (pending.1, used.1, few_below (nibble v c.args.wires.pending) p, few_below (nibble v c.args.wires.used) u) refl),
)
