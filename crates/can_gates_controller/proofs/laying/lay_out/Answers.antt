use Rattle.std.proofs.Common.{◌≡◌, ◌∙◌, get_or, refl, arith, length, ◌<◌}
use Rattle.std.proofs.lemmas.List.{length-set}
use Rattle.std.specs.Prelude.{if◌then◌else◌}
use Rattle.can_gates.specs.Circuit.{value, never}
use Rattle.can_gates_controller.specs.Laying.{standard_list, extended_list}
use Rattle.can_gates_controller.proofs.FrontPlaces.{written_place}
use Rattle.can_gates_controller.proofs.laying.lay_out.Goals as goal

pub loop-place-preserved : goal.loop-place-preserved
loop-place-preserved c =
    let l = c.loop-place in
    let within : l.place < length l.all = omega (arith, c.loop-place-test.true, l.auto.place-end, l.invariant.0) in
    let k = c.args.fields.now in
    let bytes = c.args.bytes.now in (
      length-set l.all l.place c.ite.result ∙ l.invariant.0,
      (
        c.ite.ensures.made.0 ∙ l.invariant.1.0,
        λ v keeps.
            let level = c.ite.ensures.made.1 v keeps in
            let before = l.invariant.1.1 v level.0 in
            let is = level.1 ∙ rw (c.extended_level-extended.ensures, c.standard_level-standard.ensures) refl in
            (before.0, λ p h. written_place v (λ q. if value v k.extended then value v (get_or (extended_list k bytes) q never) else value v (get_or (standard_list k bytes) q never)) l.all c.ite.result l.place p within is before.1 h),
      ),
    )

pub returns : goal.returns
returns c =
    let l = c.loop-place in
    let e : l.place ≡ 103 = omega (arith, c.loop-place-test.false, l.auto.place-end) in (
      l.invariant.1.0,
      λ v keeps.
          let whole = l.invariant.1.1 v keeps in
          (whole.0, λ p h. whole.1 p (rw e h)),
    )
