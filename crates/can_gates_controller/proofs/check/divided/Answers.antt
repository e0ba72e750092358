use Rattle.std.proofs.Common.{◌≡◌, ◌∙◌, ◌++◌, ◌∷◌, [], sym, arith, length, ◌<◌}
use Rattle.std.proofs.lemmas.List.{length-set}
use Rattle.can_frame.specs.Levels.{is_recessive}
use Rattle.can_wire.specs.Crc.{crc_of}
use Rattle.can_wire.specs.Layout.{level_at}
use Rattle.can_gates.proofs.Constants.{zero-kept}
use Rattle.can_gates_controller.proofs.Checks.{crc_step}
use Rattle.can_gates_controller.proofs.FrontPlaces.{written_place}
use Rattle.can_gates_controller.proofs.check.divided.Goals as goal

pub loop-place-preserved : goal.loop-place-preserved
loop-place-preserved c =
    let l = c.loop-place in
    let within : l.place < length l.all = omega (arith, c.loop-place-test.true, l.auto.place-end, l.invariant.0) in (
      length-set l.all l.place c.xor.result ∙ l.invariant.0,
      (
        c.xor.ensures.made.0 ∙ l.invariant.1.0,
        λ v keeps.
            let level = c.xor.ensures.made.1 v keeps in
            let before = l.invariant.1.1 v level.0 in
            let zero_is = zero-kept v c.args.circuit.now before.0 in (
              before.0,
              λ u x held fed p h.
                  let is = level.1 ∙ rw (c.next_place-moved.ensures v u zero_is held, c.term_of-term.ensures v zero_is, fed) (sym (crc_step u x l.place)) in
                  written_place v (λ q. is_recessive (level_at (crc_of (u ++ x ∷ [])) q)) l.all c.xor.result l.place p within is (λ q below. before.1 u x held fed q below) h,
            ),
      ),
    )

pub returns : goal.returns
returns c =
    let l = c.loop-place in
    let e : l.place ≡ 15 = omega (arith, c.loop-place-test.false, l.auto.place-end) in (
      l.invariant.1.0,
      λ v keeps.
          let whole = l.invariant.1.1 v keeps in
          (whole.0, λ u x held fed p h. whole.1 u x held fed p (rw e h)),
    )
