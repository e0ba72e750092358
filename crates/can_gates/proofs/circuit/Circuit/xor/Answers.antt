use Rattle.can_gates.specs.Circuit.{value}
use Rattle.can_gates.proofs.Bools.{differ_of_choice}
use Rattle.can_gates.proofs.circuit.Circuit.xor.Goals as goal

pub returns-clause-made : goal.returns-clause-made
returns-clause-made c = (
  c.ite.ensures.made.0,
  λ v keeps.
      let either = c.ite.ensures.made.1 v keeps in
      (either.0, rw (either.1, c.opposite.ensures.value v) (differ_of_choice (value v c.args.a) (value v c.args.b))),
)

pub returns-clause-serves : goal.returns-clause-serves
returns-clause-serves c = λ has. c.ite.ensures.serves (has.0, (rw c.opposite.ensures.signal has.1.0, (has.1.0, tt)))
