use Rattle.std.proofs.Common.{subst}
use Rattle.can_frame.specs.Parts.{IsFrame}
use Rattle.can_wire.specs.Layout.{frame_of, IsComplete}
use Rattle.can_code.proofs.ReadingLemmas.{IsComplete-HasData}
use Rattle.can_code.proofs.UnstuffedLevels.{unstuffed-complete}
use Rattle.can_code.proofs.sending.Sending.frame.Goals as goal

pub frame-requires : goal.frame-requires
frame-requires c =
    let u = c.self.inside.levels in
    IsComplete-HasData u (subst IsComplete c.self.invariant.1 (unstuffed-complete (frame_of u) c.self.invariant.0))

pub returns-clause-whole : goal.returns-clause-whole
returns-clause-whole c = subst IsFrame c.self.view_is c.self.invariant.0
