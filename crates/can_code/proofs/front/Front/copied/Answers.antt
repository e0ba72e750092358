use Rattle.std.proofs.Common.{arith}
use Rattle.can_wire.proofs.LayoutLengths.{frame_len_le}
use Rattle.can_code.proofs.front.Front.copied.Goals as goal

pub levels_copied-requires-clause-longest : goal.levels_copied-requires-clause-longest
levels_copied-requires-clause-longest g c = omega (arith, c.self.invariant.0.within, frame_len_le (g.B.FrameBits.levels c.self.inside.bits))
