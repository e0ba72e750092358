use Rattle.std.proofs.Common.{arith, take, ◌≡◌, ◌+◌, ◌^◌, ◌<◌, ◌∙◌, ◌++◌, ◌∷◌, []}
use Rattle.can_gates.specs.Circuit.{value, never}
use Rattle.can_gates.specs.Words.{number, bit}
use Rattle.can_gates.proofs.Constants.{zero-kept, value-never}
use Rattle.can_gates.proofs.WordNumbers.{number-lt}
use Rattle.can_gates.proofs.SumPlaces.{stopped}
use Rattle.can_gates.proofs.Lacks.{serves_none, serves_then}
use Rattle.can_gates.proofs.circuit.Circuit.raised.Goals as goal

pub returns-clause-places : goal.returns-clause-places
returns-clause-places g c = c.or_all.ensures.places

pub returns-clause-number : goal.returns-clause-number
returns-clause-number g c =
    let word = c.args.word.now in
    let by = take g.row.N c.args.by.now in
    let sum = c.add-sum.result in (
      c.or_all.ensures.number.0 ∙ c.add-sum.ensures.sum.0,
      λ v keeps.
          let raised = c.or_all.ensures.number.1 v keeps in
          let added = c.add-sum.ensures.sum.1 v raised.0 in
          let none : number v word + number v by + bit (value v never) ≡ number v word + number v by = rw (value-never v (zero-kept v c.args.self.now added.0)) (omega arith) in
          let small : number v sum < 2 ^ g.row.N = rw c.add-sum.ensures.places at (number-lt v sum) in
          (added.0, raised.1 ∙ stopped (number v sum) (number v word) (number v by) (2 ^ g.row.N) (value v c.add-sum.new.carry) (added.1 ∙ none) small),
    )

pub returns-clause-serves : goal.returns-clause-serves
returns-clause-serves g c =
    let old = c.args.self.now in
    let given = c.args.word.now ++ c.args.by.now in
    let one = c.add-sum.new.self in
    let two = c.or_all.new.self in
    let carry = c.add-sum.new.carry in
    let sum = c.add-sum.result in
    let first = serves_then old old one given [] (never ∷ given) (carry ∷ sum) (carry ∷ sum) (serves_none old given [] (λ _. tt)) (λ has made. (omega arith, has)) c.add-sum.ensures.serves (λ has made new. new) in
    serves_then old one two given (carry ∷ sum) (carry ∷ sum) c.or_all.result c.or_all.result first (λ has made. made) c.or_all.ensures.serves (λ has made new. new)
