use Rattle.can_gates.specs.Circuit.{never, value}
use Rattle.std.proofs.Common.{arith, set, take, get_or, suc, length, add-one, refl, ◌≡◌, ◌<◌, ◌∙◌, ◌++◌, ◌∷◌, []}
use Rattle.std.proofs.lemmas.List.{take_all, length-replicate, length-set}
use Rattle.can_gates.proofs.Constants.{zero-kept}
use Rattle.can_gates.proofs.WordPlaces.{zero_either, set_place, taken, choose_place}
use Rattle.can_gates.proofs.Lacks.{has_at, has_left, has_none, has_right, has_set, serves_none, serves_then}
use Rattle.can_gates.proofs.circuit.Circuit.choose.Goals as goal

pub loop-place-init : goal.loop-place-init
loop-place-init g c = (serves_none c.args.self.now (c.args.test ∷ (c.args.a.now ++ c.args.b.now)) _ (λ _. has_none c.args.self.now g.row.N), (length-replicate g.row.N never, (refl, λ v keeps. (keeps, zero_either (value v c.args.test)))))

pub loop-place-preserved : goal.loop-place-preserved
loop-place-preserved g c =
    let l = c.loop-place in
    let a = c.args.a.now in
    let b = c.args.b.now in
    let within : l.place < length l.all = omega (arith, c.loop-place-test.true, l.auto.place-end, l.invariant.1.0) in (
      serves_then c.args.self.now l.self c.ite.new.self (c.args.test ∷ (a ++ b)) l.all (c.args.test ∷ get_or a l.place never ∷ get_or b l.place never ∷ []) (c.ite.result ∷ []) (set l.all l.place c.ite.result) l.invariant.0
          (λ given all. (given.0, (has_at l.self a l.place (has_left l.self a b given.1), (has_at l.self b l.place (has_right l.self a b given.1), tt))))
          c.ite.ensures.serves
          (λ given all new. has_set c.ite.new.self l.all l.place c.ite.result all new.0),
      (
        length-set l.all l.place c.ite.result ∙ l.invariant.1.0,
        (
          c.ite.ensures.made.0 ∙ l.invariant.1.1.0,
          λ v keeps.
              let level = c.ite.ensures.made.1 v keeps in
              let before = l.invariant.1.1.1 v level.0 in
              let zero_is = zero-kept v c.args.self.now before.0 in (
                before.0,
                rw (add-one l.place)
                    (choose_place v zero_is (take l.place l.all) (take (suc l.place) (set l.all l.place c.ite.result)) a b c.args.test (get_or a l.place never) (get_or b l.place never) c.ite.result l.place (set_place l.all l.place c.ite.result within) (taken l.all l.place within) refl refl level.1 before.1),
              ),
        ),
      ),
    )

pub returns-clause-places : goal.returns-clause-places
returns-clause-places g c = c.loop-place.invariant.1.0

pub returns-clause-number : goal.returns-clause-number
returns-clause-number g c =
    let l = c.loop-place in
    let a = c.args.a.now in
    let b = c.args.b.now in
    let e : l.place ≡ g.row.N = omega (arith, c.loop-place-test.false, l.auto.place-end) in (
      l.invariant.1.1.0,
      λ v keeps.
          let whole = l.invariant.1.1.1 v keeps in
          (whole.0, rw (take_all l.place l.all (omega (arith, e, l.invariant.1.0)), take_all l.place a (omega (arith, e, c.told-a)), take_all l.place b (omega (arith, e, c.told-b))) at whole.1),
    )

pub returns-clause-serves : goal.returns-clause-serves
returns-clause-serves g c = c.loop-place.invariant.0
