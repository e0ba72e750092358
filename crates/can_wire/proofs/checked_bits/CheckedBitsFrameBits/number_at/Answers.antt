use Rattle.std.proofs.Common.{◌≡◌, ◌+◌, ◌-◌, ◌/◌, ◌%◌, ◌^◌, length, ap, sym, ◌∙◌, arith}
use Rattle.std.proofs.lemmas.Nat.{one_shl}
use Rattle.can_frame.specs.Levels.{number_from}
use Rattle.can_wire.specs.Layout.{levels_at}
use Rattle.can_wire.proofs.LevelLemmas.{length-bits_of}
use Rattle.can_wire.proofs.PackedLemmas.{number_at-bits_of}
use Rattle.can_wire.proofs.checked_bits.CheckedBitsFrameBits.number_at.Goals as goal

pub overflow_shr-result : goal.overflow_shr-result
overflow_shr-result c = omega (arith, c.len.ensures, ap length c.self.view_is, length-bits_of c.self.inside.count c.self.inside.register, c.self.invariant.1)

pub returns : goal.returns
returns c =
    let x = c.self.inside.register in
    let n = c.self.inside.count in
    let p = c.args.place in
    let k = c.args.count in
    let len : c.len.result ≡ n = c.len.ensures ∙ sym (ap length c.self.view_is) ∙ length-bits_of n x in
    let parts : n ≡ p + (k + (n - p - k)) = omega (arith, c.requires.within, c.len.ensures, len) in
    ap (λ m. c.number.result / 2 ^ (c.len.result - p - k) % m) (one_shl k 128 (omega (arith, c.requires.width))) ∙ ap (λ y. y / 2 ^ (c.len.result - p - k) % 2 ^ k) c.number.ensures
    ∙ ap (λ m. x / 2 ^ (m - p - k) % 2 ^ k) len ∙ sym (number_at-bits_of n x p k (n - p - k) parts) ∙ ap (λ u. number_from 0 (levels_at u p k)) c.self.view_is
