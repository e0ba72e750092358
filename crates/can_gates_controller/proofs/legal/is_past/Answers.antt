use Rattle.std.proofs.Common.{◌≡◌, ◌%◌, ◌^◌, ◌∙◌, arith}
use Rattle.can_gates.specs.Words.{number}
use Rattle.can_gates.proofs.Constants.{zero-kept}
use Rattle.can_gates_controller.proofs.LegalStates.{behind_more}
use Rattle.can_gates_controller.proofs.legal.is_past.Goals as goal

pub returns : goal.returns
returns c = (
  c.or.ensures.made.0 ∙ c.equals-here.ensures.made.0,
  λ v keeps.
      let made = c.or.ensures.made.1 v keeps in
      let here = c.equals-here.ensures.made.1 v made.0 in
      let zero_is = zero-kept v c.args.circuit.now here.0 in
      let low : c.args.place % 2 ^ 7 ≡ c.args.place = omega (arith, c.requires) in
      (here.0, λ before. made.1 ∙ rw (before, here.1, c.constant-number.ensures.number v zero_is, low) (behind_more (number v c.args.count.now) c.args.place)),
)
