use Rattle.std.proofs.Common.{◌∙◌, refl}
use Rattle.std.proofs.lemmas.Bool.{ne_eqb}
use Rattle.can_gates.proofs.Constants.{value-never}
use Rattle.can_gates_controller.proofs.stepping.at_first.Goals as goal

pub returns : goal.returns
returns c = λ v zero_is. value-never v zero_is ∙ rw (ne_eqb c.args.place 0 c.if-place-eq0.false) refl
