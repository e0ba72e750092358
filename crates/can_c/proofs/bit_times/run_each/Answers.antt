use Rattle.std.proofs.Common.{◌∙◌, ap, arith, refl}
use Rattle.can_frame.specs.Levels.{level_code}
use Rattle.can_terms.specs.Codes.{event_code}
use Rattle.can_c.proofs.RunLemmas.{all_passed, next_passed}
use Rattle.can_c.proofs.bit_times.run_each.Goals as goal

pub loop-place-preserved : goal.loop-place-preserved
loop-place-preserved c =
    next_passed c.args.port.now c.loop-place.port _ c.args.levels.now c.loop-place.drives c.loop-place.events c.loop-place.place _ _ _ _ c.loop-place.invariant (omega (arith, c.loop-place-test.true)) refl c.from_code.ensures
    (c.code.ensures ∙ ap level_code c.drive.ensures) c.sample.ensures.port (c.code_of.ensures ∙ ap event_code c.sample.ensures.event)

pub returns-clause-run : goal.returns-clause-run
returns-clause-run c =
    let all = all_passed c.args.port.now c.loop-place.port c.args.levels.now c.loop-place.drives c.loop-place.events c.loop-place.place c.loop-place.invariant (omega (arith, c.loop-place-test.false)) in
    all.run

pub returns-clause-drives : goal.returns-clause-drives
returns-clause-drives c =
    let all = all_passed c.args.port.now c.loop-place.port c.args.levels.now c.loop-place.drives c.loop-place.events c.loop-place.place c.loop-place.invariant (omega (arith, c.loop-place-test.false)) in
    all.driven

pub returns-clause-events : goal.returns-clause-events
returns-clause-events c =
    let all = all_passed c.args.port.now c.loop-place.port c.args.levels.now c.loop-place.drives c.loop-place.events c.loop-place.place c.loop-place.invariant (omega (arith, c.loop-place-test.false)) in
    all.told
