use Rattle.std.proofs.Common.{refl, ◌≤◌, ◌∙◌, arith}
use Rattle.can_gates.specs.Circuit.{value}
use Rattle.can_gates.proofs.Bools.{choice_of_or, choice_of_one}
use Rattle.can_gates.proofs.Lacks.{lack_then}
use Rattle.can_gates.proofs.circuit.Circuit.ite.Goals as goal

pub returns-then-is_same-clause-made : goal.returns-then-is_same-clause-made
returns-then-is_same-clause-made c = (refl, λ v keeps. (keeps, choice_of_one (value v c.args.test) (value v c.args.a) (value v c.args.b) (c.is_same.ensures c.if-is_same.true v)))

pub returns-clause-made : goal.returns-clause-made
returns-clause-made c = (
  c.or.ensures.made.0 ∙ c.and-second.ensures.made.0 ∙ c.and-first.ensures.made.0,
  λ v keeps.
      let either = c.or.ensures.made.1 v keeps in
      let second = c.and-second.ensures.made.1 v either.0 in
      let first = c.and-first.ensures.made.1 v second.0 in
      (first.0, rw (either.1, first.1, second.1, c.opposite.ensures.value v) (choice_of_or (value v c.args.test) (value v c.args.a) (value v c.args.b))),
)

pub returns-clause-serves : goal.returns-clause-serves
returns-clause-serves c = λ has.
    let old = c.args.self.now in
    let one = c.and-first.new.self in
    let two = c.and-second.new.self in
    let first = c.and-first.ensures.serves (has.0, (has.1.0, tt)) in
    let test : c.opposite.result.signal ≤ one.highest = omega (arith, c.opposite.ensures.signal, has.0, first.0) in
    let second = c.and-second.ensures.serves (test, (omega (arith, has.1.1.0, first.0), tt)) in
    let either = c.or.ensures.serves (omega (arith, first.1.0, second.0), (second.1.0, tt)) in
    (omega (arith, first.0, second.0, either.0), either.1, lack_then old.lack two.lack c.or.new.self.lack (lack_then old.lack one.lack two.lack first.2 second.2) either.2)
