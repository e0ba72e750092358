use Rattle.std.proofs.Common.{arith, set, take, suc, length, add-one, ◌≡◌, ◌<◌, ◌∙◌}
use Rattle.std.proofs.lemmas.List.{take_all, length-set}
use Rattle.can_gates.proofs.WordPlaces.{set_place, taken, constant_place, constant_whole}
use Rattle.can_gates.proofs.words.constant.Goals as goal

pub loop-place-preserved : goal.loop-place-preserved
loop-place-preserved g c =
    let l = c.loop-place in
    let within : l.place < length l.word = omega (arith, c.loop-place-test.true, l.auto.place-end, l.invariant.0) in (
      length-set l.word l.place c.lowest.result ∙ l.invariant.0,
      λ v zero_is.
          rw (add-one l.place) (constant_place v (take l.place l.word) (take (suc l.place) (set l.word l.place c.lowest.result)) c.lowest.result l.place l.rest c.args.of (set_place l.word l.place c.lowest.result within) (taken l.word l.place within) (c.lowest.ensures v zero_is) (l.invariant.1 v zero_is)),
    )

pub returns-clause-places : goal.returns-clause-places
returns-clause-places g c = c.loop-place.invariant.0

pub returns-clause-number : goal.returns-clause-number
returns-clause-number g c =
    let l = c.loop-place in
    let e : l.place ≡ g.row.N = omega (arith, c.loop-place-test.false, l.auto.place-end) in
    let whole = take_all l.place l.word (omega (arith, e, l.invariant.0)) in
    λ v zero_is. rw e at (constant_whole v l.word l.place l.rest c.args.of (l.invariant.0 ∙ omega (arith, e)) (rw whole at (l.invariant.1 v zero_is)))
