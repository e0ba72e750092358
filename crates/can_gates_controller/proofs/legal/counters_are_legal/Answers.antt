use Rattle.std.proofs.Common.{◌≡◌, ◌∙◌, ap}
use Rattle.std.specs.Prelude.{nat_le}
use Rattle.can_mac.specs.State.{is_off_phase}
use Rattle.can_gates.specs.Circuit.{value}
use Rattle.can_gates.proofs.Constants.{zero-kept, value-never}
use Rattle.can_gates_mac.specs.Nibbles.{nibble}
use Rattle.can_gates_controller.proofs.LegalStates.{rests_at, counters_fit}
use Rattle.can_gates_controller.proofs.legal.counters_are_legal.Goals as goal

pub returns : goal.returns
unfolding nibble
returns c = (
  c.and.ensures.made.0 ∙ c.and-fits.ensures.made.0 ∙ c.or-counts.ensures.made.0 ∙ c.less-some.ensures.made.0 ∙ c.xor-differs.ensures.made.0 ∙ c.less-small.ensures.made.0 ∙ c.select-rests.ensures.made.0,
  λ v keeps.
      let made = c.and.ensures.made.1 v keeps in
      let fits = c.and-fits.ensures.made.1 v made.0 in
      let counts = c.or-counts.ensures.made.1 v fits.0 in
      let some = c.less-some.ensures.made.1 v counts.0 in
      let differs = c.xor-differs.ensures.made.1 v some.0 in
      let small = c.less-small.ensures.made.1 v differs.0 in
      let rests = c.select-rests.ensures.made.1 v small.0 in
      let zero_is = zero-kept v c.args.circuit.now rests.0 in (
        rests.0,
        λ m is held.
            let off = c.is_off-off.ensures v zero_is ∙ ap (nat_le 256) held.counters.tec in
            let resting : value v c.select-rests.result ≡ is_off_phase m.phase = rests.1 ∙ rw held.phase (rests_at v zero_is m.phase) in
            made.1 ∙ rw (fits.1, counts.1, c.opposite.ensures.value v, c.opposite-2.ensures.value v, some.1, differs.1, small.1, c.constant-most.ensures.number v zero_is, held.counters.tec, held.counters.occurrences, value-never v zero_is) (counters_fit m.counters _ _ is.counters off (resting ∙ is.off)),
      ),
)
