use Rattle.std.proofs.Common.{◌≡◌, ◌+◌, ◌*◌, ◌%◌, ◌^◌, ◌<◌, ◌≤◌, ◌++◌, ℕ, length, ap, sym, ◌∙◌, subst, arith}
use Rattle.can_frame.specs.Levels.{bits_of}
use Rattle.can_wire.proofs.CheckRuns.{IsCrc-same}
use Rattle.can_wire.proofs.LevelLemmas.{length-bits_of}
use Rattle.can_wire.proofs.PackedLemmas.{bits_of-moved, joined-small, moved-fits}
use Rattle.can_wire.proofs.checked_bits.CheckedBitsFrameBits.append.Goals as goal

-- the register with the number
joined : (x y k z read more : ℕ) → z ≡ read * 2 ^ k % 2 ^ 128 + more → read ≡ x → more ≡ y → z ≡ x * 2 ^ k % 2 ^ 128 + y
joined x y k z read more is of_read of_more = is ∙ ap (λ r. r * 2 ^ k % 2 ^ 128 + more) of_read ∙ ap (λ m. x * 2 ^ k % 2 ^ 128 + m) of_more

pub overflow_add-moved : goal.overflow_add-moved
overflow_add-moved c =
    let k = c.args.count in
    omega (arith, c.from.ensures, moved-fits 128 k c.number.result c.args.number (omega (arith, c.requires.width)) c.requires.small)

pub invariant_of-self : goal.invariant_of-self
invariant_of-self c =
    let x = c.self.inside.register in
    let n = c.self.inside.count in
    let k = c.args.count in
    let y = c.args.number in
    let fits : n + k ≤ 118 = omega (arith, c.requires.room, ap length c.self.view_is, length-bits_of n x) in
    let wide : n + k ≤ 128 = omega (arith, fits) in
    let is = joined x y k _ _ _ c.new-self-inside.ensures c.number.ensures c.from.ensures in
    let levels : bits_of (n + k) c.new-self-inside.result ≡ bits_of n x ++ bits_of k y = ap (bits_of (n + k)) is ∙ bits_of-moved 128 n k x y wide c.requires.small in (
      omega (arith, c.self.invariant.0),
      fits,
      subst (λ z. z < 2 ^ (n + k)) (sym is) (joined-small 128 n k x y c.self.invariant.2 c.requires.small wide),
      IsCrc-same (sym levels) (c.append.ensures.check (bits_of n x) c.self.invariant.3),
    )

pub returns : goal.returns
returns c =
    let x = c.self.inside.register in
    let n = c.self.inside.count in
    let k = c.args.count in
    let y = c.args.number in
    let wide : n + k ≤ 128 = omega (arith, c.requires.room, ap length c.self.view_is, length-bits_of n x) in
    let is = joined x y k _ _ _ c.new-self-inside.ensures c.number.ensures c.from.ensures in
    ap (bits_of (n + k)) is ∙ bits_of-moved 128 n k x y wide c.requires.small ∙ ap (λ u. u ++ bits_of k y) c.self.view_is
