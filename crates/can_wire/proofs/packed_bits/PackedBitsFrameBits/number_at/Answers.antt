use Rattle.std.proofs.Common.{◌≤◌, ◌+◌, ◌-◌, ◌/◌, ◌%◌, ◌^◌, length, ap, sym, ◌∙◌, arith}
use Rattle.std.proofs.lemmas.Nat.{one_shl}
use Rattle.can_frame.specs.Levels.{number_from}
use Rattle.can_wire.specs.Layout.{levels_at}
use Rattle.can_wire.specs.PackedNumbers.{length-highest}
use Rattle.can_wire.proofs.PackedLemmas.{number_at-highest}
use Rattle.can_wire.proofs.packed_bits.PackedBitsFrameBits.number_at.Goals as goal

pub returns : goal.returns
returns c =
    let x = c.self.inside.register in
    let n = c.self.inside.count in
    let p = c.args.place in
    let k = c.args.count in
    let within : p + k ≤ 127 = omega (arith, c.self.invariant.1, c.requires.within, length-highest n x c.self.invariant.1, ap length c.self.view_is) in
    ap (λ m. c.number.result / 2 / 2 ^ (127 - p - k) % m) (one_shl k 128 (omega (arith, c.requires.width))) ∙ ap (λ y. y / 2 / 2 ^ (127 - p - k) % 2 ^ k) c.number.ensures
    ∙ sym (number_at-highest n x p k c.self.invariant.3 within) ∙ ap (λ u. number_from 0 (levels_at u p k)) c.self.view_is
