use Rattle.std.proofs.Common.{◌∙◌, [], ◌∷◌, refl}
use Rattle.can_gates.specs.Circuit.{value, never}
use Rattle.can_gates.specs.Words.{number}
use Rattle.can_gates.proofs.Constants.{zero-kept, value-never}
use Rattle.can_gates_mac.specs.Nibbles.{nibble}
use Rattle.can_gates_controller.proofs.StepsTaken.{two_places, wish_holds}
use Rattle.can_gates_controller.proofs.stepping.with_wish.Goals as goal

pub returns : goal.returns
returns c = (
  c.choose-pending.ensures.0 ∙ c.and-asks.ensures.made.0 ∙ c.less-few.ensures.0,
  λ v keeps.
      let pending = c.choose-pending.ensures.1 v keeps in
      let asks = c.and-asks.ensures.made.1 v pending.0 in
      let few = c.less-few.ensures.1 v asks.0 in
      let no = value-never v (zero-kept v c.args.circuit.now few.0) in
      let held = c.args.held.now in
      let k = c.args.inputs.now in
      let wish = two_places v (record { ones = k.overload_count_ones; twos = k.overload_count_twos; fours = never; eights = never }) no no in (
        few.0,
        λ m holds. wish_holds v c.asking.result held m (nibble v c.choose-pending.result) holds (λ n e. c.asking.ensures v m n holds.controller e) (value v k.overload_request) _ (number v (k.overload_count_ones ∷ k.overload_count_twos ∷ [])) (asks.1 ∙ rw (few.1, wish) refl) (pending.1 ∙ rw (wish, holds.controller.pending) refl),
      ),
)
