use Rattle.std.proofs.Common.{◌∙◌}
use Rattle.can_gates.specs.Circuit.{value}
use Rattle.can_gates.proofs.Constants.{value-never}
use Rattle.can_gates_controller.proofs.Checks.{term_at, term_left}
use Rattle.can_gates_controller.proofs.check.term_of.Goals as goal

pub returns : goal.returns
returns c = λ v zero_is. value-never v zero_is ∙ term_left (value v c.args.fed) _ _ c.if-place.false (term_at c.args.place _ c.requires)
