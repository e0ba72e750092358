use Rattle.std.proofs.Common.{◌∙◌, ap, sym, ◌+◌, ◌-◌, take, drop}
use Rattle.can_frame.specs.Levels.{number_from}
use Rattle.can_wire.proofs.PlainLemmas.{levels_at-part}
use Rattle.can_wire.proofs.plain_bits.PlainBitsFrameBits.number_at.Goals as goal

pub returns : goal.returns
returns c =
    let p = c.args.place in
    let n = c.args.count in
    c.number.ensures ∙ ap (λ u. number_from 0 (take (p + n - p) (drop p u))) (c.deref.ensures.0 ∙ c.self.view_is) ∙ ap (number_from 0) (sym (levels_at-part c.args.self.now p n c.requires.within))
