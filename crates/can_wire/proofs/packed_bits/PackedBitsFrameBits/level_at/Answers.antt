use Rattle.std.proofs.Common.{◌<◌, ◌-◌, ◌/◌, ◌%◌, ◌^◌, length, nat_eq, ap, sym, ◌∙◌, arith}
use Rattle.can_frame.specs.Levels.{level_from}
use Rattle.can_wire.specs.Layout.{level_at}
use Rattle.can_wire.specs.PackedNumbers.{length-highest}
use Rattle.can_wire.proofs.PackedLemmas.{level_at-highest, level_from-bit}
use Rattle.can_wire.proofs.packed_bits.PackedBitsFrameBits.level_at.Goals as goal

pub returns : goal.returns
returns c =
    let x = c.self.inside.register in
    let n = c.self.inside.count in
    let p = c.args.place in
    let within : p < 128 = omega (arith, c.requires, length-highest n x c.self.invariant.1, ap length c.self.view_is) in
    c.from_bool.ensures ∙ ap (λ y. level_from (nat_eq (y / 2 ^ (127 - p) % 2) 1)) c.number.ensures ∙ level_from-bit x (127 - p)
    ∙ sym (level_at-highest n x p c.self.invariant.3 within) ∙ ap (λ u. level_at u p) c.self.view_is
