use Rattle.std.proofs.Common.{◌≡◌, ◌∙◌, ℕ, ◌<◌, get_or, refl, arith}
use Rattle.std.proofs.lemmas.List.{take_all}
use Rattle.can_frame.specs.Levels.{is_recessive}
use Rattle.can_wire.specs.Layout.{level_at}
use Rattle.can_gates.specs.Circuit.{value, never}
use Rattle.can_gates.specs.Words.{number, bit}
use Rattle.can_gates.proofs.Constants.{zero-kept, value-never}
use Rattle.can_gates.proofs.WordNumbers.{number-lt}
use Rattle.can_gates_controller.proofs.Lengths.{length_is}
use Rattle.can_gates_controller.proofs.front.frame_length.Goals as goal

pub returns : goal.returns
returns c = (
  c.add.ensures.sum.0 ∙ c.choose-least.ensures.number.0 ∙ c.and-one.ensures.made.0 ∙ c.and-two.ensures.made.0 ∙ c.and-four.ensures.made.0 ∙ c.and-few.ensures.made.0 ∙ c.and-eight.ensures.made.0 ∙ c.ite-ones.ensures.made.0 ∙ c.ite-twos.ensures.made.0 ∙ c.ite-fours.ensures.made.0 ∙ c.ite-eights.ensures.made.0 ∙ c.ite-remote.ensures.made.0,
  λ v keeps.
      let sum = c.add.ensures.sum.1 v keeps in
      let least = c.choose-least.ensures.number.1 v sum.0 in
      let one = c.and-one.ensures.made.1 v least.0 in
      let two = c.and-two.ensures.made.1 v one.0 in
      let four = c.and-four.ensures.made.1 v two.0 in
      let few = c.and-few.ensures.made.1 v four.0 in
      let eight = c.and-eight.ensures.made.1 v few.0 in
      let ones = c.ite-ones.ensures.made.1 v eight.0 in
      let twos = c.ite-twos.ensures.made.1 v ones.0 in
      let fours = c.ite-fours.ensures.made.1 v twos.0 in
      let eights = c.ite-eights.ensures.made.1 v fours.0 in
      let remote = c.ite-remote.ensures.made.1 v eights.0 in
      let zero_is = zero-kept v c.args.circuit.now remote.0 in
      let no = value-never v zero_is in (
        remote.0,
        λ u held.
            let at : (p : ℕ) → p < 103 → value v (get_or c.args.levels.now p never) ≡ is_recessive (level_at u p) = held in
            let small = rw c.add.ensures.places at (number-lt v c.add.result) in
            length_is u (value v (get_or c.args.levels.now 13 never)) (value v c.ite-remote.result) (value v c.ite-eights.result) (value v c.ite-fours.result) (value v c.ite-twos.result) (value v c.ite-ones.result) (value v c.and-few.result) (number v c.add.result) (bit (value v c.add.new.carry)) (at 13 (omega arith))
            (remote.1 ∙ rw (at 32 (omega arith), at 12 (omega arith)) refl)
            (eights.1 ∙ rw (at 35 (omega arith), at 15 (omega arith)) refl)
            (fours.1 ∙ rw (at 36 (omega arith), at 16 (omega arith)) refl)
            (twos.1 ∙ rw (at 37 (omega arith), at 17 (omega arith)) refl)
            (ones.1 ∙ rw (at 38 (omega arith), at 18 (omega arith)) refl)
            (few.1 ∙ rw (c.opposite-2.ensures.value v, c.opposite-3.ensures.value v) refl)
            (rw (no, one.1, two.1, four.1, eight.1, c.opposite.ensures.value v, take_all 7 c.choose-least.result (omega (arith, c.choose-least.ensures.places)), least.1, c.constant-long.ensures.number v zero_is, c.constant-short.ensures.number v zero_is) at sum.1 ∙ omega arith)
            small,
      ),
)
