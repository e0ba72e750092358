use Rattle.can_gates.specs.Circuit.{value}
use Rattle.can_gates.proofs.Bools.{and_comm}
use Rattle.can_gates.proofs.circuit.Sides.new.Goals as goal

pub returns-then-code-clause-value : goal.returns-then-code-clause-value
returns-then-code-clause-value c = λ v. and_comm (value v c.args.b) (value v c.args.a)
