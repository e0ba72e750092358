use Rattle.std.proofs.Common.{◌∙◌, refl}
use Rattle.can_gates_mac.specs.Nibbles.{nibble}
use Rattle.can_gates_controller.proofs.LegalStates.{place_is}
use Rattle.can_gates_controller.proofs.legal.place_is_legal.Goals as goal

pub returns : goal.returns
unfolding nibble
returns c = (
  c.select.ensures.made.0 ∙ c.and-later.ensures.made.0 ∙ c.less-below_11.ensures.0 ∙ c.less-below_8.ensures.0 ∙ c.less-below_7.ensures.0 ∙ c.less-below_6.ensures.0 ∙ c.less-below_3.ensures.0 ∙ c.less-first.ensures.0,
  λ v keeps.
      let made = c.select.ensures.made.1 v keeps in
      let later = c.and-later.ensures.made.1 v made.0 in
      let below_11 = c.less-below_11.ensures.1 v later.0 in
      let below_8 = c.less-below_8.ensures.1 v below_11.0 in
      let below_7 = c.less-below_7.ensures.1 v below_8.0 in
      let below_6 = c.less-below_6.ensures.1 v below_7.0 in
      let below_3 = c.less-below_3.ensures.1 v below_6.0 in
      let first = c.less-first.ensures.1 v below_3.0 in (
        first.0,
        λ m is held. made.1 ∙ rw held.phase (place_is v _ _ _ _ _ _ _ m.counters.row (nibble v c.args.held.now.wires.place) first.1 below_3.1 below_6.1 below_7.1 below_8.1 below_11.1 (later.1 ∙ rw (c.opposite.ensures.value v, first.1, below_8.1) refl) m.phase is.phase is.counters.row held.place),
      ),
)
