use Rattle.std.proofs.Common.{take, ◌^◌, ◌++◌, []}
use Rattle.can_gates.specs.Words.{number}
use Rattle.can_gates.proofs.Constants.{zero-kept}
use Rattle.can_gates.proofs.SumPlaces.{lowered_by}
use Rattle.can_gates.proofs.Lacks.{has_both, has_left, has_right, serves_none, serves_then}
use Rattle.can_gates.proofs.circuit.Circuit.lowered.Goals as goal

pub returns-clause-places : goal.returns-clause-places
returns-clause-places g c = c.complement.ensures.places

pub returns-clause-number : goal.returns-clause-number
returns-clause-number g c = (
  c.raised-up.ensures.number.0,
  λ v keeps.
      let up = c.raised-up.ensures.number.1 v keeps in
      let zero_is = zero-kept v c.args.self.now up.0 in
      (up.0, lowered_by (number v c.args.word.now) (number v (take g.row.N c.args.by.now)) (number v c.complement-turned.result) (number v c.raised-up.result) (number v c.complement.result) (2 ^ g.row.N) (c.complement-turned.ensures.number v zero_is) up.1 (c.complement.ensures.number v zero_is)),
)

pub returns-clause-serves : goal.returns-clause-serves
returns-clause-serves g c =
    let old = c.args.self.now in
    let word = c.args.word.now in
    let by = c.args.by.now in
    let turned = c.complement-turned.result in
    let one = c.raised-up.new.self in
    serves_then old old one (word ++ by) [] (turned ++ by) c.raised-up.result c.complement.result (serves_none old (word ++ by) [] (λ _. tt)) (λ has made. has_both old turned by (c.complement-turned.ensures.signals old (has_left old word by has)) (has_right old word by has)) c.raised-up.ensures.serves (λ has made new. c.complement.ensures.signals one new)
