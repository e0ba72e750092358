use Rattle.std.proofs.Common.{◌∙◌}
use Rattle.can_gates.specs.Circuit.{value}
use Rattle.can_gates.proofs.Bools.{and_comm}
use Rattle.can_gates.proofs.literal.folded.Goals as goal

pub returns-then-b-eq0-clause-value : goal.returns-then-b-eq0-clause-value
returns-then-b-eq0-clause-value c = λ v zero_is. c.with_constant-then-b-eq0.ensures.value v zero_is ∙ and_comm (value v c.args.b) (value v c.args.a)
