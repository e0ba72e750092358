use Rattle.std.proofs.Common.{◌∙◌, not, refl, ap}
use Rattle.can_gates.specs.Circuit.{value}
use Rattle.can_gates.proofs.Constants.{zero-kept}
use Rattle.can_gates_mac.specs.Nibbles.{nibble}
use Rattle.can_gates_controller.proofs.LegalStates.{stance_is}
use Rattle.can_gates_controller.proofs.legal.stance_is_legal.Goals as goal

pub returns : goal.returns
unfolding nibble
returns c = (
  c.select.ensures.made.0 ∙ c.or-first.ensures.made.0 ∙ c.and-flag.ensures.made.0 ∙ c.or-begins.ensures.made.0 ∙ c.or-waits.ensures.made.0 ∙ c.less-start.ensures.0 ∙ c.less-unused.ensures.0,
  λ v keeps.
      let made = c.select.ensures.made.1 v keeps in
      let first = c.or-first.ensures.made.1 v made.0 in
      let flag = c.and-flag.ensures.made.1 v first.0 in
      let begins = c.or-begins.ensures.made.1 v flag.0 in
      let waits = c.or-waits.ensures.made.1 v begins.0 in
      let start = c.less-start.ensures.1 v waits.0 in
      let unused = c.less-unused.ensures.1 v start.0 in
      let zero_is = zero-kept v c.args.circuit.now unused.0 in
      let wires = c.args.held.now.wires in (
        unused.0,
        λ m settled held.
            made.1
            ∙ rw held.phase (stance_is v zero_is _ _ _ _ _ m.role m.counters.row (nibble v wires.place) m.overloads.used (value v wires.last) (value v wires.unacknowledged) (value v wires.first)
            (c.opposite-receives.ensures.value v ∙ ap not held.sender)
            held.sender
            (unused.1 ∙ rw held.used refl)
            (flag.1 ∙ rw (waits.1, c.opposite.ensures.value v, held.sender, begins.1, c.opposite-2.ensures.value v, start.1) refl)
            (first.1 ∙ rw (start.1, c.opposite-3.ensures.value v) refl)
            m.phase settled held.place held.last held.unacknowledged held.first),
      ),
)
