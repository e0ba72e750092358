use Rattle.std.proofs.Common.{ap, ◌∙◌}
use Rattle.can_frame.specs.Levels.{bits_of}
use Rattle.can_wire.specs.Crc.{crc_of}
use Rattle.can_wire.proofs.DivisionLemmas.{IsCrc-only}
use Rattle.can_wire.proofs.checked_bits.CheckedBitsFrameBits.check.Goals as goal

pub returns-clause-computed : goal.returns-clause-computed
returns-clause-computed c =
    ap (bits_of 15) c.value.ensures.value ∙ IsCrc-only (bits_of c.self.inside.count c.self.inside.register) (bits_of 15 c.self.inside.run) c.self.invariant.3 ∙ ap crc_of c.self.view_is
