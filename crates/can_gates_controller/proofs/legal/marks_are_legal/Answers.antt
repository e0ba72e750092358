use Rattle.std.proofs.Common.{◌∙◌, refl}
use Rattle.can_gates.specs.Circuit.{value}
use Rattle.can_gates_mac.specs.Nibbles.{nibble}
use Rattle.can_gates_controller.proofs.LegalStates.{marks_are}
use Rattle.can_gates_controller.proofs.legal.marks_are_legal.Goals as goal

pub returns : goal.returns
unfolding nibble
returns c = (
  c.select.ensures.made.0 ∙ c.and-none.ensures.made.0 ∙ c.and-no_flag.ensures.made.0,
  λ v keeps.
      let made = c.select.ensures.made.1 v keeps in
      let none = c.and-none.ensures.made.1 v made.0 in
      let no_flag = c.and-no_flag.ensures.made.1 v none.0 in
      let is_no_flag = no_flag.1 ∙ rw (c.opposite.ensures.value v, c.opposite-2.ensures.value v) refl in
      let is_no_first = c.opposite-no_first.ensures.value v in
      let wires = c.args.held.now.wires in (
        no_flag.0,
        λ m held. made.1 ∙ rw held.phase (marks_are v _ _ _ (value v wires.last) (value v wires.unacknowledged) (value v wires.first) (none.1 ∙ rw (is_no_flag, is_no_first) refl) is_no_first is_no_flag m.phase held.last held.unacknowledged held.first),
      ),
)
