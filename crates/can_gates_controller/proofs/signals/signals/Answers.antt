use Rattle.std.proofs.Common.{◌≡◌, ◌+◌, arith, length, ◌<◌, ◌∙◌}
use Rattle.std.proofs.lemmas.List.{length-set}
use Rattle.can_gates_controller.proofs.FrontPlaces.{written_place}
use Rattle.can_gates_controller.proofs.signals.signals.Goals as goal

pub loop-place-preserved : goal.loop-place-preserved
loop-place-preserved g c =
    let l = c.loop-place in
    let within : l.place < length l.word = omega (arith, c.loop-place-test.true, l.auto.place-end, l.invariant.0) in (
      length-set l.word l.place c.signal.result ∙ l.invariant.0,
      λ v p h. written_place v (λ q. v (c.args.first + q)) l.word c.signal.result l.place p within (c.signal.ensures v) (l.invariant.1 v) h,
    )

pub returns-clause-places : goal.returns-clause-places
returns-clause-places g c = c.loop-place.invariant.0

pub returns-clause-signals : goal.returns-clause-signals
returns-clause-signals g c =
    let l = c.loop-place in
    let e : l.place ≡ g.row.N = omega (arith, c.loop-place-test.false, l.auto.place-end) in
    rw e at l.invariant.1
