use Rattle.std.proofs.Common.{arith, set, take, suc, length, add-one, ◌≡◌, ◌<◌, ◌∙◌, refl, ◌∷◌, [], get_or}
use Rattle.std.proofs.lemmas.List.{take_all, length-replicate, length-set}
use Rattle.can_gates.specs.Circuit.{never, value}
use Rattle.can_gates.proofs.Constants.{zero-kept}
use Rattle.can_gates.proofs.WordPlaces.{zero_either, set_place, taken, or_place}
use Rattle.can_gates.proofs.Lacks.{has_at, has_none, has_set, serves_none, serves_then}
use Rattle.can_gates.proofs.circuit.Circuit.or_all.Goals as goal

pub loop-place-init : goal.loop-place-init
loop-place-init g c = (serves_none c.args.self.now (c.args.over ∷ c.args.word.now) _ (λ _. has_none c.args.self.now g.row.N), (length-replicate g.row.N never, (refl, λ v keeps. (keeps, zero_either (value v c.args.over)))))

pub loop-place-preserved : goal.loop-place-preserved
loop-place-preserved g c =
    let l = c.loop-place in
    let word = c.args.word.now in
    let within : l.place < length l.all = omega (arith, c.loop-place-test.true, l.auto.place-end, l.invariant.1.0) in (
      serves_then c.args.self.now l.self c.or.new.self (c.args.over ∷ word) l.all (get_or word l.place never ∷ c.args.over ∷ []) (c.or.result ∷ []) (set l.all l.place c.or.result) l.invariant.0
          (λ given all. (has_at l.self word l.place given.1, (given.0, tt)))
          c.or.ensures.serves
          (λ given all new. has_set c.or.new.self l.all l.place c.or.result all new.0),
      (
        length-set l.all l.place c.or.result ∙ l.invariant.1.0,
        (
          c.or.ensures.made.0 ∙ l.invariant.1.1.0,
          λ v keeps.
              let level = c.or.ensures.made.1 v keeps in
              let before = l.invariant.1.1.1 v level.0 in
              let zero_is = zero-kept v c.args.self.now before.0 in
              (before.0, rw (add-one l.place) (or_place v zero_is (take l.place l.all) (take (suc l.place) (set l.all l.place c.or.result)) c.args.word.now c.or.result c.args.over l.place (set_place l.all l.place c.or.result within) (taken l.all l.place within) level.1 before.1)),
        ),
      ),
    )

pub returns-clause-places : goal.returns-clause-places
returns-clause-places g c = c.loop-place.invariant.1.0

pub returns-clause-number : goal.returns-clause-number
returns-clause-number g c =
    let l = c.loop-place in
    let word = c.args.word.now in
    let e : l.place ≡ g.row.N = omega (arith, c.loop-place-test.false, l.auto.place-end) in (
      l.invariant.1.1.0,
      λ v keeps.
          let whole = l.invariant.1.1.1 v keeps in
          (whole.0, rw e at (rw (take_all l.place l.all (omega (arith, e, l.invariant.1.0)), take_all l.place word (omega (arith, e, c.told-word))) at whole.1)),
    )

pub returns-clause-serves : goal.returns-clause-serves
returns-clause-serves g c = c.loop-place.invariant.0
