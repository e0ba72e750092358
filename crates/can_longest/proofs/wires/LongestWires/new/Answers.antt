use Rattle.std.proofs.Common.{◌+◌, arith}
use Rattle.can_longest.proofs.Places.{row_added, row_at}
use Rattle.can_longest.proofs.wires.LongestWires.new.Goals as goal

pub byte_before-requires-clause-row : goal.byte_before-requires-clause-row
byte_before-requires-clause-row c =
    row_at (c.loop-bytes.bytes + 1) c.loop-bytes.bytes c.loop-bytes.rows.items c.index.result.now c.loop-bytes.invariant (omega arith) c.index.ensures

pub loop-bytes-preserved : goal.loop-bytes-preserved
loop-bytes-preserved c =
    row_added (c.loop-bytes.bytes + 1) c.loop-bytes.rows.items c.push-in-loop-bytes.new.self.items c.in_ok-row.row c.in_ok-push-2.ensures.items c.loop-bytes.invariant c.in_ok-row.ensures
