use Rattle.std.proofs.Common.{arith}
use Rattle.std.proofs.lemmas.List.{take_rest}
use Rattle.can_texts.proofs.Blocks.{row_longer}
use Rattle.can_texts.proofs.traces.idle.pairs_count.Goals as goal

pub loop-count-preserved : goal.loop-count-preserved
loop-count-preserved c =
    let bytes = c.args.bytes.now in
    let count = c.loop-count.count in
    record {
      within = omega arith;
      row = row_longer bytes count 128 c.loop-count.invariant.row (rw (take_rest bytes count) at c.begin_with_a_row.ensures c.if-begin_with_a_row.true);
    }
