use Rattle.std.proofs.Common.{◌+◌, drop, arith, length-drop}
use Rattle.std.proofs.lemmas.List.{take_rest}
use Rattle.can_texts.proofs.Blocks.{row_longer, row_through, row_within, row_ends}
use Rattle.can_texts.proofs.traces.idle.recessive_count.Goals as goal

pub returns-then-others-ne0-clause-within : goal.returns-then-others-ne0-clause-within
returns-then-others-ne0-clause-within c =
    let others = c.others_at_front-others in
    omega (arith, row_within 16 (omega arith) c.args.bytes.now c.if-bytes-ge-FIRST.true others.result others.ensures (omega (arith, c.if-others-ne0.true)), c.if-bytes-ge-FIRST.true)

pub returns-then-others-ne0-clause-row : goal.returns-then-others-ne0-clause-row
returns-then-others-ne0-clause-row c =
    let others = c.others_at_front-others in
    row_ends 16 (omega arith) c.args.bytes.now c.if-bytes-ge-FIRST.true others.result others.ensures (omega (arith, c.if-others-ne0.true))

pub returns-then-others-ne0-2-clause-row : goal.returns-then-others-ne0-2-clause-row
returns-then-others-ne0-2-clause-row c =
    let bytes = c.args.bytes.now in
    let count = c.loop-count.count in
    let others = c.others_in_block-others in
    row_longer bytes count _ c.loop-count.invariant.row
    (row_ends 64 (omega arith) (drop count bytes) (omega (arith, length-drop count bytes)) others.result (rw (take_rest bytes count) at others.ensures) (omega arith))

pub loop-count-preserved : goal.loop-count-preserved
loop-count-preserved c =
    let bytes = c.args.bytes.now in
    let count = c.loop-count.count in
    let others = c.others_in_block-others in
    let more = c.pairs_count-count in
    let block = row_longer bytes count 64 c.loop-count.invariant.row
    (row_through 64 (omega arith) (drop count bytes) (omega (arith, length-drop count bytes)) others.result (rw (take_rest bytes count) at others.ensures) (omega arith)) in
    record {
      within = omega (arith, rw (take_rest bytes (count + 64)) at more.ensures.within, length-drop (count + 64) bytes);
      row = row_longer bytes (count + 64) more.result block (rw (take_rest bytes (count + 64)) at more.ensures.row);
    }
