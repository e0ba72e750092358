use Rattle.std.proofs.Common.{◌≡◌, ◌-◌, ◌/◌, ◌%◌, ◌^◌, length, nat_eq, ap, sym, ◌∙◌, arith}
use Rattle.can_frame.specs.Levels.{level_from}
use Rattle.can_wire.specs.Layout.{level_at}
use Rattle.can_wire.proofs.LevelLemmas.{length-bits_of}
use Rattle.can_wire.proofs.PackedLemmas.{level_at-bits_of, level_from-bit}
use Rattle.can_wire.proofs.checked_bits.CheckedBitsFrameBits.level_at.Goals as goal

pub overflow_shr-number : goal.overflow_shr-number
overflow_shr-number c = omega (arith, c.len.ensures, ap length c.self.view_is, length-bits_of c.self.inside.count c.self.inside.register, c.self.invariant.1)

pub returns : goal.returns
returns c =
    let x = c.self.inside.register in
    let n = c.self.inside.count in
    let p = c.args.place in
    let len : c.len.result ≡ n = c.len.ensures ∙ sym (ap length c.self.view_is) ∙ length-bits_of n x in
    c.from_bool.ensures ∙ ap (λ y. level_from (nat_eq (y / 2 ^ (c.len.result - 1 - p) % 2) 1)) c.number.ensures ∙ ap (λ m. level_from (nat_eq (x / 2 ^ (m - 1 - p) % 2) 1)) len
    ∙ level_from-bit x (n - 1 - p) ∙ sym (level_at-bits_of n x p (omega (arith, c.requires, c.len.ensures, len))) ∙ ap (λ u. level_at u p) c.self.view_is
