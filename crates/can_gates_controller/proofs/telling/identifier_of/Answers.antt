use Rattle.std.proofs.Common.{◌≡◌, ◌∙◌, ◌<◌, length, get_or, refl, arith}
use Rattle.std.proofs.lemmas.List.{length-set}
use Rattle.std.specs.Prelude.{if◌then◌else◌}
use Rattle.can_gates.specs.Circuit.{value, never}
use Rattle.can_gates.proofs.Constants.{zero-kept}
use Rattle.can_gates_controller.specs.Laying.{long_list, short_list}
use Rattle.can_gates_controller.proofs.FrontPlaces.{written_place}
use Rattle.can_gates_controller.proofs.Told.{length-long, length-short}
use Rattle.can_gates_controller.proofs.WordParts.{number_chosen}
use Rattle.can_gates_controller.proofs.telling.identifier_of.Goals as goal

pub loop-place-preserved : goal.loop-place-preserved
loop-place-preserved c =
    let l = c.loop-place in
    let within : l.place < length l.word = omega (arith, c.loop-place-test.true, l.auto.place-end, l.invariant.0) in
    let levels = c.args.levels.now in (
      length-set l.word l.place c.ite.result ∙ l.invariant.0,
      (
        c.ite.ensures.made.0 ∙ l.invariant.1.0,
        λ v keeps.
            let bit = c.ite.ensures.made.1 v keeps in
            let before = l.invariant.1.1 v bit.0 in
            let is = bit.1 ∙ rw (c.long_bit-long.ensures, c.short_bit-short.ensures) refl in
            (before.0, λ p h. written_place v (λ q. if value v c.args.extended then value v (get_or (long_list levels) q never) else value v (get_or (short_list levels) q never)) l.word c.ite.result l.place p within is before.1 h),
      ),
    )

pub returns-clause-places : goal.returns-clause-places
returns-clause-places c = c.loop-place.invariant.0

pub returns-clause-number : goal.returns-clause-number
returns-clause-number c =
    let l = c.loop-place in
    let levels = c.args.levels.now in
    let e : l.place ≡ 29 = omega (arith, c.loop-place-test.false, l.auto.place-end) in (
      l.invariant.1.0,
      λ v keeps.
          let whole = l.invariant.1.1 v keeps in
          (whole.0, number_chosen v (zero-kept v c.args.circuit.now whole.0) (value v c.args.extended) 29 l.word (long_list levels) (short_list levels) (omega (arith, l.invariant.0)) (omega (arith, length-long levels)) (omega (arith, length-short levels)) (λ p h. whole.1 p (rw e h))),
    )
