use Rattle.std.proofs.Common.{◌+◌, sym, ◌∙◌, arith, length-drop}
use Rattle.std.proofs.lemmas.List.{take_rest}
use Rattle.can_texts.proofs.SkippedBytes.{AreSkipped-more, AreSkipped-then}
use Rattle.can_texts.proofs.traces.skipped.skipped_count.Goals as goal

pub returns-then-count-eq-FIRST-clause-within : goal.returns-then-count-eq-FIRST-clause-within
returns-then-count-eq-FIRST-clause-within c =
    let bytes = c.args.bytes.now in
    let count = c.loop-count.count in
    omega (arith, rw (take_rest bytes (count + 1)) at c.row_count.ensures.within, length-drop (count + 1) bytes, c.loop-count-test.true)

pub returns-then-count-eq-FIRST-clause-skipped : goal.returns-then-count-eq-FIRST-clause-skipped
returns-then-count-eq-FIRST-clause-skipped c =
    let bytes = c.args.bytes.now in
    let count = c.loop-count.count in
    AreSkipped-then bytes (count + 1) _ (AreSkipped-more bytes count c.loop-count-test.true c.loop-count.invariant.skipped (sym c.is_skipped.ensures ∙ c.if-is_skipped.true))
    (rw (take_rest bytes (count + 1)) at c.row_count.ensures.skipped)
