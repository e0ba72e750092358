use Rattle.std.proofs.Common.{◌≡◌, ◌+◌, ◌-◌, ◌*◌, ◌%◌, ◌^◌, ◌<◌, ◌≤◌, ◌++◌, ◌∷◌, [], Bool, ℕ, length, take, drop, replicate, refl, ap, ◌∙◌, arith}
use mir.Val.{bool_byte}
use Rattle.can_frame.specs.declared.level.Level.{Level}
use Rattle.can_frame.specs.declared.level.Level.TheVariants.{Dominant}
use Rattle.can_frame.specs.Levels.{bits_of, is_recessive}
use Rattle.can_wire.specs.PackedNumbers.{length-highest}
use Rattle.can_wire.proofs.PackedLemmas.{IsPut, is_put}
use Rattle.can_wire.proofs.RegisterWord.{level_bits, level_byte-lt}
use Rattle.can_wire.proofs.packed_bits.PackedBitsFrameBits.push.Goals as goal

-- the level is appended to those that are there
module _ (n x : ℕ) (level : Level) (few : n ≤ 118) (small : x < 2 ^ 128) (behind : drop n (bits_of 128 x) ≡ replicate (128 - n) Dominant) where
  put : (z read bit : ℕ) (recessive : Bool) → z ≡ read + bit * 2 ^ (127 - n) % 2 ^ 128 → read ≡ x → bit ≡ bool_byte recessive → recessive ≡ is_recessive level
      → IsPut n 1 x (bool_byte (is_recessive level)) z
  put z read bit recessive is of_read of_bit of_level =
      let shift : 127 - n ≡ 128 - n - 1 = omega arith in
      is_put n 1 x (bool_byte (is_recessive level)) (omega (arith, few)) small behind (level_byte-lt level) z read bit (127 - n) is of_read (of_bit ∙ ap bool_byte of_level) shift

pub overflow_add-number : goal.overflow_add-number
overflow_add-number c =
    let x = c.self.inside.register in
    let n = c.self.inside.count in
    let sum = c.number.result + c.from.result * 2 ^ (127 - n) % 2 ^ 128 in
    let is = put n x c.args.level c.self.invariant.1 c.self.invariant.2 c.self.invariant.3 sum _ _ _ refl c.number.ensures c.from.ensures c.is_recessive.ensures in
    omega (arith, is.small)

pub invariant_of-self : goal.invariant_of-self
invariant_of-self c =
    let x = c.self.inside.register in
    let n = c.self.inside.count in
    let is = put n x c.args.level c.self.invariant.1 c.self.invariant.2 c.self.invariant.3 _ _ _ _ c.new-self-inside.ensures c.number.ensures c.from.ensures c.is_recessive.ensures in
    (omega arith, omega (arith, c.requires, length-highest n x c.self.invariant.1, ap length c.self.view_is), is.small, is.behind)

pub returns : goal.returns
returns c =
    let x = c.self.inside.register in
    let n = c.self.inside.count in
    let is = put n x c.args.level c.self.invariant.1 c.self.invariant.2 c.self.invariant.3 _ _ _ _ c.new-self-inside.ensures c.number.ensures c.from.ensures c.is_recessive.ensures in
    is.levels ∙ ap (λ t. take n (bits_of 128 x) ++ t) (level_bits c.args.level) ∙ ap (λ u. u ++ c.args.level ∷ []) c.self.view_is
