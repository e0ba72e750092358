use Rattle.std.proofs.Common.{length, sym, ap, ◌∙◌}
use Rattle.can_wire.proofs.LevelLemmas.{length-bits_of}
use Rattle.can_wire.proofs.checked_bits.CheckedBitsFrameBits.len.Goals as goal

pub returns : goal.returns
returns c = c.from.ensures ∙ sym (length-bits_of c.self.inside.count c.self.inside.register) ∙ ap length c.self.view_is
