use Rattle.std.proofs.Common.{drop, arith, length-drop}
use Rattle.std.proofs.lemmas.List.{take_rest}
use Rattle.can_texts.proofs.BlockMasks.{skipped_before, skipped_through, skipped_within}
use Rattle.can_texts.proofs.SkippedBytes.{AreSkipped-then}
use Rattle.can_texts.proofs.traces.skipped.row_count.Goals as goal

pub returns-then-others-ne0-clause-within : goal.returns-then-others-ne0-clause-within
returns-then-others-ne0-clause-within c =
    let bytes = c.args.bytes.now in
    let count = c.loop-block.count in
    let rest = take_rest bytes count in
    let chunk = c.in-Some.ensures.cases in
    let others = c.others_of-others in
    omega (
      arith,
      skipped_within 16 (omega arith) (drop count bytes) c.in-Some.block.now (rw rest at chunk.enough) (rw rest at chunk.same) others.result others.ensures (omega (arith, c.if-others-ne0.true)),
      rw rest at chunk.enough,
      length-drop count bytes,
    )

pub returns-then-others-ne0-clause-skipped : goal.returns-then-others-ne0-clause-skipped
returns-then-others-ne0-clause-skipped c =
    let bytes = c.args.bytes.now in
    let count = c.loop-block.count in
    let rest = take_rest bytes count in
    let chunk = c.in-Some.ensures.cases in
    let others = c.others_of-others in
    AreSkipped-then bytes count _ c.loop-block.invariant.skipped
    (skipped_before 16 (omega arith) (drop count bytes) c.in-Some.block.now (rw rest at chunk.enough) (rw rest at chunk.same) others.result others.ensures (omega (arith, c.if-others-ne0.true)))

pub loop-block-preserved : goal.loop-block-preserved
loop-block-preserved c =
    let bytes = c.args.bytes.now in
    let count = c.loop-block.count in
    let rest = take_rest bytes count in
    let chunk = c.in-Some.ensures.cases in
    let others = c.others_of-others in
    record {
      within = omega (arith, rw rest at chunk.enough, length-drop count bytes, c.loop-block.invariant.within);
      skipped = AreSkipped-then bytes count 16 c.loop-block.invariant.skipped
          (skipped_through 16 (omega arith) (drop count bytes) c.in-Some.block.now (rw rest at chunk.enough) (rw rest at chunk.same) others.result others.ensures (omega (arith, c.if-others-ne0.false)));
    }
