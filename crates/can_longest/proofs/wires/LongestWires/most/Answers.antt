use Rattle.std.proofs.Common.{◌*◌, arith}
use Rattle.can_longest.proofs.Places.{row_at}
use Rattle.can_longest.proofs.wires.LongestWires.most.Goals as goal

pub most-requires-clause-turned : goal.most-requires-clause-turned
most-requires-clause-turned c =
    let is = row_at 9 c.args.bytes c.args.self.now.rows.items c.index.result.now c.args.self.now.whole (omega (arith, c.requires.few)) c.index.ensures in
    is.range

pub most-requires-clause-full : goal.most-requires-clause-full
most-requires-clause-full c =
    let is = row_at 9 c.args.bytes c.args.self.now.rows.items c.index.result.now c.args.self.now.whole (omega (arith, c.requires.few)) c.index.ensures in
    is.full

pub returns : goal.returns
returns c =
    let is = row_at 9 c.args.bytes c.args.self.now.rows.items c.index.result.now c.args.self.now.whole (omega (arith, c.requires.few)) c.index.ensures in
    c.most.ensures (8 * c.args.bytes) is
