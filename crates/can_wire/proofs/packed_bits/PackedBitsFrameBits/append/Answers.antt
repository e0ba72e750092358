use Rattle.std.proofs.Common.{◌+◌, ◌-◌, ◌*◌, ◌%◌, ◌^◌, ◌≤◌, ◌++◌, length, refl, ap, ◌∙◌, arith}
use Rattle.can_frame.specs.Levels.{bits_of}
use Rattle.can_wire.specs.PackedNumbers.{length-highest}
use Rattle.can_wire.proofs.PackedLemmas.{is_put}
use Rattle.can_wire.proofs.packed_bits.PackedBitsFrameBits.append.Goals as goal

pub overflow_add-number : goal.overflow_add-number
overflow_add-number c =
    let x = c.self.inside.register in
    let n = c.self.inside.count in
    let k = c.args.count in
    let fits : n + k ≤ 118 = omega (arith, c.requires.room, length-highest n x c.self.invariant.1, ap length c.self.view_is) in
    let shift = 128 - c.from-2.result - k in
    let sum = c.number.result + c.from.result * 2 ^ shift % 2 ^ 128 in
    let is = is_put n k x c.args.number (omega (arith, fits)) c.self.invariant.2 c.self.invariant.3 c.requires.small sum _ _ shift refl c.number.ensures c.from.ensures (ap (λ m. 128 - m - k) c.from-2.ensures) in
    omega (arith, is.small)

pub invariant_of-self : goal.invariant_of-self
invariant_of-self c =
    let x = c.self.inside.register in
    let n = c.self.inside.count in
    let k = c.args.count in
    let fits : n + k ≤ 118 = omega (arith, c.requires.room, length-highest n x c.self.invariant.1, ap length c.self.view_is) in
    let is = is_put n k x c.args.number (omega (arith, fits)) c.self.invariant.2 c.self.invariant.3 c.requires.small _ _ _ (128 - c.from-2.result - k) c.new-self-inside.ensures c.number.ensures c.from.ensures (ap (λ m. 128 - m - k) c.from-2.ensures) in
    (omega (arith, c.self.invariant.0), fits, is.small, is.behind)

pub returns : goal.returns
returns c =
    let x = c.self.inside.register in
    let n = c.self.inside.count in
    let k = c.args.count in
    let fits : n + k ≤ 118 = omega (arith, c.requires.room, length-highest n x c.self.invariant.1, ap length c.self.view_is) in
    let is = is_put n k x c.args.number (omega (arith, fits)) c.self.invariant.2 c.self.invariant.3 c.requires.small _ _ _ (128 - c.from-2.result - k) c.new-self-inside.ensures c.number.ensures c.from.ensures (ap (λ m. 128 - m - k) c.from-2.ensures) in
    is.levels ∙ ap (λ u. u ++ bits_of k c.args.number) c.self.view_is
