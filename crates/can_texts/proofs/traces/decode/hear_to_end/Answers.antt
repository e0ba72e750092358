use Rattle.std.proofs.Common.{◌+◌, get_or, arith, length-drop}
use Rattle.std.proofs.lemmas.List.{take_rest}
use Rattle.std.proofs.lemmas.Result.{err_from_is_err_and}
use Rattle.can_texts.proofs.DecodeSteps.{HearsText-untold_part}
use Rattle.can_texts.proofs.GatheredDigits.{FailsToHear-next, HearsText-digit, no_level}
use Rattle.can_texts.proofs.traces.decode.hear_to_end.Goals as goal

pub returns-in_err-hear_level-clause-err : goal.returns-in_err-hear_level-clause-err
returns-in_err-hear_level-clause-err g c =
    let bytes = c.args.bytes.now in
    let index = c.loop-index.index in
    let rest = take_rest bytes index in
    let levels = c.hear_levels-index in
    let p = err_from_is_err_and c.from_residual.result c.from_residual.ensures.1 in
    let told = HearsText-untold_part c.args.trace.now c.loop-index.trace levels.new.trace bytes index _ _ _ _ c.loop-index.invariant.hears levels.result
    (rw rest at levels.ensures.text) (rw rest at levels.ensures.hears) in
    rw (p.1, p.2) (FailsToHear-next c.args.trace.now levels.new.trace c.hear_level.new.trace bytes _ _ _ _ _ told _ _ c.if-index-bytes.true _ c.in-Some.level c.in-Some.ensures c.in_err-hear_level.ensures.err)

pub loop-index-preserved-then-index-bytes : goal.loop-index-preserved-then-index-bytes
loop-index-preserved-then-index-bytes g c =
    let bytes = c.args.bytes.now in
    let index = c.loop-index.index in
    let rest = take_rest bytes index in
    let levels = c.hear_levels-index in
    let told = HearsText-untold_part c.args.trace.now c.loop-index.trace levels.new.trace bytes index _ _ _ _ c.loop-index.invariant.hears levels.result
    (rw rest at levels.ensures.text) (rw rest at levels.ensures.hears) in
    record {
      within = omega (arith, c.if-index-bytes.true);
      behind = omega (arith, c.loop-index.invariant.behind, levels.ensures.place, c.in_ok-hear_level.ensures.place);
      unfailed = c.in_ok-hear_level.ensures.failed;
      hears = HearsText-digit c.args.trace.now levels.new.trace c.hear_level.new.trace bytes _ _ _ _ _ told _ _ c.if-index-bytes.true c.in-Some.level c.in-Some.ensures c.in_ok-hear_level.ensures.ok;
    }

pub loop-index-preserved : goal.loop-index-preserved
loop-index-preserved g c =
    let bytes = c.args.bytes.now in
    let index = c.loop-index.index in
    let rest = take_rest bytes index in
    let levels = c.hear_levels-index in
    record {
      within = omega (arith, rw rest at levels.ensures.within, length-drop index bytes, c.loop-index-test.true);
      behind = omega (arith, c.loop-index.invariant.behind, levels.ensures.place);
      unfailed = c.loop-index.invariant.unfailed;
      hears = HearsText-untold_part c.args.trace.now c.loop-index.trace levels.new.trace bytes index _ _ _ _ c.loop-index.invariant.hears levels.result
          (rw rest at levels.ensures.text) (rw rest at levels.ensures.hears);
    }

pub returns-in_default-clause-stops : goal.returns-in_default-clause-stops
returns-in_default-clause-stops g c =
    let index = c.loop-index.index + c.hear_levels-index.result in
    λ within. no_level (get_or c.args.bytes.now index 0) c.in_default.ensures

pub returns-in_default-clause-ok : goal.returns-in_default-clause-ok
returns-in_default-clause-ok g c =
    let index = c.loop-index.index in
    let rest = take_rest c.args.bytes.now index in
    let levels = c.hear_levels-index in
    HearsText-untold_part c.args.trace.now c.loop-index.trace levels.new.trace c.args.bytes.now index _ _ _ _ c.loop-index.invariant.hears levels.result
    (rw rest at levels.ensures.text) (rw rest at levels.ensures.hears)
