use Rattle.std.proofs.Common.{◌+◌, [], get_or, sym, subst, ◌∙◌, arith, length-drop}
use Rattle.std.proofs.lemmas.List.{take_rest}
use Rattle.std.proofs.lemmas.Result.{err_from_is_err_and}
use Rattle.can_texts.specs.Decoding.{Hears}
use Rattle.can_texts.proofs.DecodeSteps.{Hears-none, HearsText-untold, HearsText-untold_part}
use Rattle.can_texts.proofs.SkippedBytes.{AreSkipped-next, HearsText-skipped}
use Rattle.can_texts.proofs.GatheredDigits.{FailsToHear-behind, FailsToHear-next, HearsText-behind, HearsText-digit, StopsHearing-bad, StopsHearing-failed, no_level, no_trace_byte}
use Rattle.can_texts.proofs.traces.decode.hear_bytes.Goals as goal

pub loop-index-init : goal.loop-index-init
loop-index-init g c =
    let trace = c.args.trace.now in
    let skipped = c.skipped_count-index in
    let is = skipped.ensures.skipped in
    record {
      begun = omega arith;
      within = skipped.ensures.within;
      behind = omega (arith, c.requires.within);
      unfailed = c.requires.unfailed;
      hears = HearsText-untold trace trace _ _ _ is.0 (subst (λ l. Hears trace trace l []) (sym is.1) (Hears-none trace));
    }

pub returns-in_err-hear_level-clause-err : goal.returns-in_err-hear_level-clause-err
returns-in_err-hear_level-clause-err g c =
    let bytes = c.args.bytes.now in
    let index = c.loop-index.index in
    let rest = take_rest bytes index in
    let levels = c.hear_levels-index in
    let trace = levels.new.trace in
    let next = index + levels.result in
    let heard = HearsText-untold_part c.args.trace.now c.loop-index.trace trace bytes index _ _ _ _ c.loop-index.invariant.hears levels.result
    (rw rest at levels.ensures.text) (rw rest at levels.ensures.hears) in
    let p = err_from_is_err_and c.from_residual.result c.from_residual.ensures.1 in
    rw (p.1, p.2) (StopsHearing-failed _ c.args.trace.now c.hear_level.new.trace _ bytes _ _ _ _
    (FailsToHear-next c.args.trace.now trace c.hear_level.new.trace bytes _ _ _ _ _ heard _ _ c.if-index-bytes.true _ c.in-Some.level c.in-Some.ensures c.in_err-hear_level.ensures.err))

pub loop-index-preserved-in-Some : goal.loop-index-preserved-in-Some
loop-index-preserved-in-Some g c =
    let bytes = c.args.bytes.now in
    let index = c.loop-index.index in
    let rest = take_rest bytes index in
    let levels = c.hear_levels-index in
    let trace = levels.new.trace in
    let next = index + levels.result in
    let heard = HearsText-untold_part c.args.trace.now c.loop-index.trace trace bytes index _ _ _ _ c.loop-index.invariant.hears levels.result
    (rw rest at levels.ensures.text) (rw rest at levels.ensures.hears) in
    record {
      begun = omega (arith, c.loop-index.invariant.begun);
      within = omega (arith, c.if-index-bytes.true);
      behind = omega (arith, c.loop-index.invariant.behind, levels.ensures.place, c.in_ok-hear_level.ensures.place);
      unfailed = c.in_ok-hear_level.ensures.failed;
      hears = HearsText-digit c.args.trace.now trace c.hear_level.new.trace bytes _ _ _ _ _ heard _ _ c.if-index-bytes.true c.in-Some.level c.in-Some.ensures c.in_ok-hear_level.ensures.ok;
    }

pub returns-else-is_skipped-clause-err : goal.returns-else-is_skipped-clause-err
returns-else-is_skipped-clause-err g c =
    let bytes = c.args.bytes.now in
    let index = c.loop-index.index in
    let rest = take_rest bytes index in
    let levels = c.hear_levels-index in
    let trace = levels.new.trace in
    let next = index + levels.result in
    let heard = HearsText-untold_part c.args.trace.now c.loop-index.trace trace bytes index _ _ _ _ c.loop-index.invariant.hears levels.result
    (rw rest at levels.ensures.text) (rw rest at levels.ensures.hears) in
    StopsHearing-bad c.args.trace.now trace bytes next _ _ _ _ heard c.if-index-bytes.true c.args.place
    (no_trace_byte (get_or bytes next 0) (no_level (get_or bytes next 0) c.in_default.ensures) (sym c.is_skipped.ensures ∙ c.if-is_skipped.false))

pub loop-index-preserved-else-are_enough_behind : goal.loop-index-preserved-else-are_enough_behind
loop-index-preserved-else-are_enough_behind g c =
    let bytes = c.args.bytes.now in
    let index = c.loop-index.index in
    let rest = take_rest bytes index in
    let levels = c.hear_levels-index in
    let trace = levels.new.trace in
    let next = index + levels.result in
    let heard = HearsText-untold_part c.args.trace.now c.loop-index.trace trace bytes index _ _ _ _ c.loop-index.invariant.hears levels.result
    (rw rest at levels.ensures.text) (rw rest at levels.ensures.hears) in
    let skipped = c.skipped_count in
    let behind = take_rest bytes (next + 1) in
    let row = AreSkipped-next bytes next skipped.result c.if-index-bytes.true (sym c.is_skipped.ensures ∙ c.if-is_skipped.true) (rw behind at skipped.ensures.skipped) in
    let passed = HearsText-skipped c.args.trace.now trace bytes next _ _ _ _ heard (1 + skipped.result) row in
    record {
      begun = omega arith;
      within = omega (arith, rw behind at skipped.ensures.within, length-drop (next + 1) bytes, c.if-index-bytes.true);
      behind = omega (arith, c.loop-index.invariant.behind, levels.ensures.place);
      unfailed = c.loop-index.invariant.unfailed;
      hears = passed;
    }

pub returns-in_err-gathered-clause-err : goal.returns-in_err-gathered-clause-err
returns-in_err-gathered-clause-err g c =
    let bytes = c.args.bytes.now in
    let index = c.loop-index.index in
    let rest = take_rest bytes index in
    let levels = c.hear_levels-index in
    let trace = levels.new.trace in
    let next = index + levels.result in
    let heard = HearsText-untold_part c.args.trace.now c.loop-index.trace trace bytes index _ _ _ _ c.loop-index.invariant.hears levels.result
    (rw rest at levels.ensures.text) (rw rest at levels.ensures.hears) in
    let skipped = c.skipped_count in
    let behind = take_rest bytes (next + 1) in
    let row = AreSkipped-next bytes next skipped.result c.if-index-bytes.true (sym c.is_skipped.ensures ∙ c.if-is_skipped.true) (rw behind at skipped.ensures.skipped) in
    let passed = HearsText-skipped c.args.trace.now trace bytes next _ _ _ _ heard (1 + skipped.result) row in
    let last = next + (1 + skipped.result) in
    let p = err_from_is_err_and c.from_residual-in_err-gathered.result c.from_residual-in_err-gathered.ensures.1 in
    rw (p.1, p.2) (StopsHearing-failed _ c.args.trace.now c.hear_gathered.new.trace _ bytes _ _ _ _
    (FailsToHear-behind c.args.trace.now trace c.hear_gathered.new.trace bytes last _ _ _ _ _ _ passed _ (rw (take_rest bytes last) at c.in_err-gathered.ensures.err)))

pub loop-index-preserved-in_ok-gathered : goal.loop-index-preserved-in_ok-gathered
loop-index-preserved-in_ok-gathered g c =
    let bytes = c.args.bytes.now in
    let index = c.loop-index.index in
    let rest = take_rest bytes index in
    let levels = c.hear_levels-index in
    let trace = levels.new.trace in
    let next = index + levels.result in
    let heard = HearsText-untold_part c.args.trace.now c.loop-index.trace trace bytes index _ _ _ _ c.loop-index.invariant.hears levels.result
    (rw rest at levels.ensures.text) (rw rest at levels.ensures.hears) in
    let skipped = c.skipped_count in
    let behind = take_rest bytes (next + 1) in
    let row = AreSkipped-next bytes next skipped.result c.if-index-bytes.true (sym c.is_skipped.ensures ∙ c.if-is_skipped.true) (rw behind at skipped.ensures.skipped) in
    let passed = HearsText-skipped c.args.trace.now trace bytes next _ _ _ _ heard (1 + skipped.result) row in
    let last = next + (1 + skipped.result) in
    let gathered = c.in_ok-gathered in
    let others = take_rest bytes last in
    record {
      begun = omega arith;
      within = omega (arith, rw behind at skipped.ensures.within, length-drop (next + 1) bytes, c.if-index-bytes.true, rw others at gathered.ensures.within, length-drop last bytes);
      behind = omega (arith, c.loop-index.invariant.behind, levels.ensures.place, gathered.ensures.place);
      unfailed = gathered.ensures.failed;
      hears = HearsText-behind c.args.trace.now trace c.hear_gathered.new.trace bytes last _ _ _ _ _ _ passed gathered.gathered.taken (rw others at gathered.ensures.ok);
    }

pub loop-index-preserved : goal.loop-index-preserved
loop-index-preserved g c =
    let bytes = c.args.bytes.now in
    let index = c.loop-index.index in
    let rest = take_rest bytes index in
    let levels = c.hear_levels-index in
    let trace = levels.new.trace in
    let next = index + levels.result in
    let heard = HearsText-untold_part c.args.trace.now c.loop-index.trace trace bytes index _ _ _ _ c.loop-index.invariant.hears levels.result
    (rw rest at levels.ensures.text) (rw rest at levels.ensures.hears) in
    record {
      begun = omega (arith, c.loop-index.invariant.begun);
      within = omega (arith, rw rest at levels.ensures.within, length-drop index bytes, c.loop-index-test.true);
      behind = omega (arith, c.loop-index.invariant.behind, levels.ensures.place);
      unfailed = c.loop-index.invariant.unfailed;
      hears = heard;
    }
