use Rattle.can_gates.specs.Circuit.{value}
use Rattle.can_gates.proofs.Bools.{or_of_and}
use Rattle.can_gates.proofs.circuit.Circuit.or.Goals as goal

pub returns-clause-made : goal.returns-clause-made
returns-clause-made c = (
  c.and-neither.ensures.made.0,
  λ v keeps.
      let neither = c.and-neither.ensures.made.1 v keeps in
      (neither.0, rw (c.opposite-3.ensures.value v, neither.1, c.opposite.ensures.value v, c.opposite-2.ensures.value v) (or_of_and (value v c.args.a) (value v c.args.b))),
)

pub returns-clause-lack : goal.returns-clause-lack
returns-clause-lack c = rw (c.opposite.ensures.signal, c.opposite-2.ensures.signal) at c.and-neither.ensures.lack

pub returns-clause-serves : goal.returns-clause-serves
returns-clause-serves c = λ has.
    let made = c.and-neither.ensures.serves (rw c.opposite.ensures.signal has.0, (rw c.opposite-2.ensures.signal has.1.0, tt)) in
    (made.0, (rw c.opposite-3.ensures.signal made.1.0, tt), made.2)
