use Rattle.can_gates.specs.Circuit.{never}
use Rattle.std.proofs.Common.{arith, set, take, get_or, suc, length, add-one, refl, ◌≡◌, ◌<◌, ◌∙◌}
use Rattle.std.proofs.lemmas.List.{take_all, length-replicate, length-set}
use Rattle.can_gates.proofs.WordPlaces.{set_place, taken, complement_place}
use Rattle.can_gates.proofs.Lacks.{has_at, has_none, has_set}
use Rattle.can_gates.proofs.words.complement.Goals as goal

pub loop-place-init : goal.loop-place-init
loop-place-init g c = (λ p has. has_none p g.row.N, (length-replicate g.row.N never, λ v zero_is. refl))

pub loop-place-preserved : goal.loop-place-preserved
loop-place-preserved g c =
    let l = c.loop-place in
    let word = c.args.word.now in
    let within : l.place < length l.all = omega (arith, c.loop-place-test.true, l.auto.place-end, l.invariant.1.0) in (
      λ p has. has_set p l.all l.place c.opposite.result (l.invariant.0 p has) (rw c.opposite.ensures.signal (has_at p word l.place has)),
      (
        length-set l.all l.place c.opposite.result ∙ l.invariant.1.0,
        λ v zero_is.
            rw (add-one l.place) (complement_place v zero_is (take l.place l.all) (take (suc l.place) (set l.all l.place c.opposite.result)) word (get_or word l.place never) c.opposite.result l.place (set_place l.all l.place c.opposite.result within) (taken l.all l.place within) refl (c.opposite.ensures.value v) (l.invariant.1.1 v zero_is)),
      ),
    )

pub returns-clause-places : goal.returns-clause-places
returns-clause-places g c = c.loop-place.invariant.1.0

pub returns-clause-number : goal.returns-clause-number
returns-clause-number g c =
    let l = c.loop-place in
    let word = c.args.word.now in
    let e : l.place ≡ g.row.N = omega (arith, c.loop-place-test.false, l.auto.place-end) in
    λ v zero_is. rw e at (rw (take_all l.place l.all (omega (arith, e, l.invariant.1.0)), take_all l.place word (omega (arith, e, c.told-word))) at (l.invariant.1.1 v zero_is))

pub returns-clause-signals : goal.returns-clause-signals
returns-clause-signals g c = c.loop-place.invariant.0
