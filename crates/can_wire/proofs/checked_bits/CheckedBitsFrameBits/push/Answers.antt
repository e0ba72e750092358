use Rattle.std.proofs.Common.{◌≡◌, ◌+◌, ◌*◌, ◌^◌, ◌<◌, ◌≤◌, ◌++◌, ◌∷◌, [], Bool, ℕ, length, ap, sym, ◌∙◌, subst, arith}
use mir.Val.{bool_byte}
use Rattle.std.proofs.Math.Pow.{pow_mono}
use Rattle.can_frame.specs.declared.level.Level.{Level}
use Rattle.can_frame.specs.Levels.{bits_of, is_recessive}
use Rattle.can_wire.proofs.CheckRuns.{IsCrc-same}
use Rattle.can_wire.proofs.LevelLemmas.{length-bits_of}
use Rattle.can_wire.proofs.PackedLemmas.{bits_of-next, bool_small, next-small}
use Rattle.can_wire.proofs.checked_bits.CheckedBitsFrameBits.push.Goals as goal

-- the register is far from full
small : (n x : ℕ) → n ≤ 118 → x < 2 ^ n → x < 2 ^ 118
small n x few is =
    let power : 2 ^ n ≤ 2 ^ 118 = pow_mono few in
    omega (arith, is, power)

-- the register with the level
next : (x z read bit : ℕ) (recessive : Bool) (level : Level) → z ≡ 2 * read + bit → read ≡ x → bit ≡ bool_byte recessive → recessive ≡ is_recessive level
    → z ≡ 2 * x + bool_byte (is_recessive level)
next x z read bit recessive level is of_read of_bit of_level = is ∙ ap (λ r. 2 * r + bit) of_read ∙ ap (λ b. 2 * x + b) (of_bit ∙ ap bool_byte of_level)

pub overflow_mul-moved : goal.overflow_mul-moved
overflow_mul-moved c = omega (arith, c.number-moved.ensures, small c.self.inside.count c.self.inside.register c.self.invariant.1 c.self.invariant.2)

pub overflow_add-moved : goal.overflow_add-moved
overflow_add-moved c =
    omega (arith, c.number-moved.ensures, small c.self.inside.count c.self.inside.register c.self.invariant.1 c.self.invariant.2, c.from.ensures, bool_small c.is_recessive.result)

pub invariant_of-self : goal.invariant_of-self
invariant_of-self c =
    let x = c.self.inside.register in
    let n = c.self.inside.count in
    let level = c.args.level in
    let is = next x _ _ _ _ level c.new-self-inside.ensures c.number-moved.ensures c.from.ensures c.is_recessive.ensures in
    let levels : bits_of (n + 1) c.new-self-inside.result ≡ bits_of n x ++ level ∷ [] = ap (bits_of (n + 1)) is ∙ bits_of-next n x level in (
      omega arith,
      omega (arith, c.requires, ap length c.self.view_is, length-bits_of n x),
      subst (λ z. z < 2 ^ (n + 1)) (sym is) (next-small n x level c.self.invariant.2),
      IsCrc-same (sym levels) (c.push.ensures.check (bits_of n x) c.self.invariant.3),
    )

pub returns : goal.returns
returns c =
    let x = c.self.inside.register in
    let n = c.self.inside.count in
    let level = c.args.level in
    let is = next x _ _ _ _ level c.new-self-inside.ensures c.number-moved.ensures c.from.ensures c.is_recessive.ensures in
    ap (bits_of (n + 1)) is ∙ bits_of-next n x level ∙ ap (λ u. u ++ level ∷ []) c.self.view_is
