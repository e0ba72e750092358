use Rattle.std.proofs.Common.{◌++◌, take, subst, ap, sym, ◌∙◌, arith}
use Rattle.std.proofs.lemmas.List.{length-take-le, take_all}
use Rattle.can_frame.specs.Levels.{bits_of}
use Rattle.can_wire.specs.Stuffing.{stuffed}
use Rattle.can_wire.specs.StuffSteps.{LaysOut}
use Rattle.can_wire.proofs.StuffSteps.{LaysOut-all, take-eight, eight-small}
use Rattle.can_wire.proofs.spelling.lay_out.Goals as goal

pub overflow_add-place : goal.overflow_add-place
overflow_add-place c = omega (arith, c.loop-place.invariant.within, c.requires.few)

pub overflow_cast-number_at : goal.overflow_cast-number_at
overflow_cast-number_at c = omega (arith, c.number_at.ensures, eight-small c.args.unstuffed.now c.loop-place.place)

pub push_octet-requires-clause-room : goal.push_octet-requires-clause-room
push_octet-requires-clause-room c =
    omega (arith, c.loop-place.invariant.laid.room, length-take-le c.loop-place.place c.args.unstuffed.now c.loop-place.invariant.within, c.loop-place-test.true, c.len-count.ensures, c.requires.few)

pub loop-place-preserved : goal.loop-place-preserved
loop-place-preserved c =
    let u = c.args.unstuffed.now in
    let p = c.loop-place.place in
    record {
      within = omega (arith, c.loop-place-test.true, c.len-count.ensures);
      laid = subst (LaysOut c.push_octet.new.levels c.push_octet.new.self)
          (ap (λ n. take p u ++ bits_of 8 n) c.number_at.ensures ∙ sym (take-eight u p (omega (arith, c.loop-place-test.true, c.len-count.ensures))))
          (c.push_octet.ensures (take p u) c.loop-place.invariant.laid);
    }

pub push-requires-clause-room : goal.push-requires-clause-room
push-requires-clause-room c =
    omega (arith, c.loop-place-2.invariant.laid.room, length-take-le c.loop-place-2.place c.args.unstuffed.now c.loop-place-2.invariant.within, c.loop-place-2-test.true, c.len-count.ensures, c.requires.few)

pub returns-clause-levels : goal.returns-clause-levels
returns-clause-levels c =
    let l = c.loop-place-2 in
    let u = c.args.unstuffed.now in
    LaysOut-all l.levels l.stuffing (take l.place u) l.invariant.laid ∙ ap stuffed (take_all l.place u (omega (arith, c.loop-place-2-test.false, c.len-count.ensures)))

pub returns-clause-bound : goal.returns-clause-bound
returns-clause-bound c =
    let l = c.loop-place-2 in
    omega (arith, l.invariant.laid.room, length-take-le l.place c.args.unstuffed.now l.invariant.within, l.invariant.within, c.requires.few)
