use Rattle.std.proofs.Common.{◌≡◌, ◌<◌, ◌≤◌, ◌+◌, ◌*◌, ◌^◌, [], ◌∷◌, ◌++◌, Bool, ℕ, length, length-append, ap, ◌∙◌, arith}
use mir.Val.{bool_byte}
use Rattle.std.proofs.Math.Pow.{pow_mono}
use Rattle.std.proofs.lemmas.Bool.{eqb-true, eq-eqb}
use Rattle.can_frame.specs.declared.level.Level.{Level}
use Rattle.can_frame.specs.Levels.{bits_of, is_recessive}
use Rattle.can_wire.specs.Crc.{crc_of}
use Rattle.can_wire.proofs.CheckRuns.{IsCrc-zero, zero-IsCrc}
use Rattle.can_wire.proofs.PackedLemmas.{bits_of-next, next-small}
use Rattle.can_wire.proofs.RegisterWord.{crc_of-wider}
use Rattle.can_wire.proofs.packed_bits.PackedBitsFrameBits.agrees_with.Goals as goal

pub overflow_mul-number : goal.overflow_mul-number
overflow_mul-number c =
    let power : 2 ^ length c.args.self.now ≤ 2 ^ 118 = pow_mono c.number.ensures.few in
    omega (arith, c.number.ensures.small, power)

-- the number with the level appended
more : (x bit : ℕ) (recessive : Bool) (level : Level) → bit ≡ bool_byte recessive → recessive ≡ is_recessive level → 2 * x + bit ≡ 2 * x + bool_byte (is_recessive level)
more x bit recessive level of_bit of_level = ap (λ b. 2 * x + b) (of_bit ∙ ap bool_byte of_level)

below : (n x bit : ℕ) (recessive : Bool) (level : Level) → n ≤ 118 → x < 2 ^ n → bit ≡ bool_byte recessive → recessive ≡ is_recessive level → 2 * x + bit < 2 ^ 119
below n x bit recessive level few small of_bit of_level =
    let room : n + 1 ≤ 119 = omega (arith, few) in
    let power : 2 ^ (n + 1) ≤ 2 ^ 119 = pow_mono room in
    omega (arith, power, more x bit recessive level of_bit of_level, next-small n x level small)

pub overflow_add-number : goal.overflow_add-number
overflow_add-number c = omega (arith, below (length c.args.self.now) c.number.result c.from.result c.is_recessive.result c.args.level c.number.ensures.few c.number.ensures.small c.from.ensures c.is_recessive.ensures)

pub crc_of_number-requires : goal.crc_of_number-requires
crc_of_number-requires c = omega (arith, below (length c.args.self.now) c.number.result c.from.result c.is_recessive.result c.args.level c.number.ensures.few c.number.ensures.small c.from.ensures c.is_recessive.ensures)

pub returns : goal.returns
returns c =
    let x = c.number.result in
    let level = c.args.level in
    let n = length c.args.self.now in
    let all = c.args.self.now ++ level ∷ [] in
    let check = c.crc_of_number.result in
    let long : 15 ≤ length all = omega (arith, c.requires, length-append c.args.self.now (level ∷ [])) in
    let few : n + 1 ≤ 120 = omega (arith, c.number.ensures.few) in
    let computed : bits_of 15 check ≡ crc_of all =
    c.crc_of_number.ensures.check ∙ ap (λ y. crc_of (bits_of 120 y)) (more x c.from.result c.is_recessive.result level c.from.ensures c.is_recessive.ensures)
    ∙ crc_of-wider (n + 1) 120 (2 * x + bool_byte (is_recessive level)) few (next-small n x level c.number.ensures.small)
    ∙ ap crc_of (bits_of-next n x level ∙ ap (λ u. u ++ level ∷ []) c.number.ensures.levels) in (
      λ equal. IsCrc-zero all long check computed (eqb-true check 0 equal),
      λ agrees. eq-eqb check 0 (zero-IsCrc all long check computed c.crc_of_number.ensures.range agrees),
    )
