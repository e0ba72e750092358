-- The bits in which a key keeps a standard and an extended arbitration field.
use Rattle.std.proofs.Common.{◌≡◌, ℕ, ◌+◌, ◌-◌, ◌*◌, ◌/◌, ◌%◌, ◌^◌, ◌<◌, Bool, true, false, [], ◌∷◌, ◌++◌, refl, sym, ◌∙◌, ap, arith, bit_or, bit_and}
use Rattle.std.proofs.lemmas.Nat.{or_shifted, and_mask}
use mir.Val.{bool_byte}
use Rattle.can_frame.specs.declared.level.Level.TheVariants.{Dominant, Recessive}
use Rattle.can_frame.specs.Levels.{level_of, level_from, bits_of}
use Rattle.can_frame.specs.Arbitration.{standard_field, extended_field}
use Rattle.can_frame.specs.KeyBits.{ide_bit, kept_field, IsKept}
use Rattle.can_frame.specs.Kept.{kept_field-short, kept_field-long}
use Rattle.can_frame.proofs.LevelLemmas.{bits_of-append, bits_of-low, bits_of-last}
use Rattle.can_frame.proofs.KeyLemmas.{Keeps}

-- a bool as a bit
bool_byte-lt : (b : Bool) → bool_byte b < 2
bool_byte-lt true = omega arith
bool_byte-lt false = omega arith

level_of-bool : (b : Bool) → level_of (bool_byte b) ≡ level_from b
level_of-bool true = refl
level_of-bool false = refl

-- two numbers with no bit in common
or_above : (a k high low : ℕ) → high ≡ a * 2 ^ k → low < 2 ^ k → bit_or high low ≡ high + low
or_above a k high low e within = ap (λ t. bit_or t low) e ∙ or_shifted a k low within ∙ ap (λ t. t + low) (sym e)

-- ---- standard: identifier, RTR, IDE

abbrev standard_bits : ℕ → ℕ → ℕ
standard_bits raw rtr = raw * 2 ^ 21 + rtr * 2 ^ 20

module _ (raw rtr : ℕ) (range : raw < 2 ^ 11) (bit : rtr < 2) where
  standard_kept : IsKept (standard_bits raw rtr)
  standard_kept = record { range = omega arith; zeros = λ _. omega arith }

  standard_is : kept_field (standard_bits raw rtr) ≡ bits_of 11 raw ++ level_of rtr ∷ Dominant ∷ []
  unfolding bits_of
  standard_is =
      let front = raw * 4 + rtr * 2 in
      let ide : ide_bit (standard_bits raw rtr) ≡ 0 = omega arith in
      let first : standard_bits raw rtr / 2 ^ 19 ≡ front = omega arith in
      let upper : front / 2 ^ 2 ≡ raw = omega arith in
      let second : front / 2 ^ 1 % 2 ≡ rtr = omega arith in
      let last : front / 2 ^ 0 % 2 ≡ 0 = omega arith in
      kept_field-short (standard_bits raw rtr) ide
      ∙ ap (bits_of 13) first
      ∙ bits_of-append 11 2 front
      ∙ ap (λ t. bits_of 11 t ++ bits_of 2 front) upper
      ∙ ap (λ t. bits_of 11 raw ++ level_of t ∷ level_of (front / 2 ^ 0 % 2) ∷ []) second
      ∙ ap (λ t. bits_of 11 raw ++ level_of rtr ∷ level_of t ∷ []) last

  -- as the code computes the bits
  standard_sum : bit_or (raw * 2 ^ 21 % 2 ^ 32) (rtr * 2 ^ 20 % 2 ^ 32) ≡ standard_bits raw rtr
  standard_sum =
      let first : raw * 2 ^ 21 % 2 ^ 32 ≡ raw * 2 ^ 21 = omega arith in
      let second : rtr * 2 ^ 20 % 2 ^ 32 ≡ rtr * 2 ^ 20 = omega arith in
      ap (λ t. bit_or t (rtr * 2 ^ 20 % 2 ^ 32)) first
      ∙ ap (bit_or (raw * 2 ^ 21)) second
      ∙ or_above raw 21 (raw * 2 ^ 21) (rtr * 2 ^ 20) refl (omega arith)

-- ---- extended: the identifier's eleven highest bits, SRR, IDE, its other bits, RTR

abbrev extended_bits : ℕ → ℕ → ℕ → ℕ
extended_bits upper lower rtr = upper * 2 ^ 21 + 3 * 2 ^ 19 + lower * 2 + rtr

module _ (upper lower rtr : ℕ) (high : upper < 2 ^ 11) (low : lower < 2 ^ 18) (bit : rtr < 2) where
  extended_kept : IsKept (extended_bits upper lower rtr)
  extended_kept = record { range = omega arith; zeros = λ short. absurd (omega arith) }

  extended_is :
      kept_field (extended_bits upper lower rtr)
      ≡ bits_of 11 upper ++ Recessive ∷ Recessive ∷ (bits_of 18 lower ++ level_of rtr ∷ [])
  unfolding bits_of
  extended_is =
      let bits = extended_bits upper lower rtr in
      let ide : ide_bit bits ≡ 1 = omega arith in
      let first : bits / 2 ^ 21 ≡ upper = omega arith in
      let srr : bits / 2 ^ 20 % 2 ≡ 1 = omega arith in
      let half : bits / 2 ≡ (upper * 4 + 3) * 2 ^ 18 + lower = omega arith in
      let last : bits % 2 ≡ rtr = omega arith in
      let rest : bits_of 19 bits ≡ bits_of 18 lower ++ level_of rtr ∷ [] =
      bits_of-last 18 bits
      ∙ ap (λ t. bits_of 18 t ++ level_of (bits % 2) ∷ []) half
      ∙ ap (λ t. t ++ level_of (bits % 2) ∷ []) (bits_of-low 18 (upper * 4 + 3) lower)
      ∙ ap (λ t. bits_of 18 lower ++ level_of t ∷ []) last in
      kept_field-long bits ide
      ∙ bits_of-append 11 21 bits
      ∙ ap (λ t. bits_of 11 t ++ bits_of 21 bits) first
      ∙ ap (λ t. bits_of 11 upper ++ level_of t ∷ level_of (bits / 2 ^ 19 % 2) ∷ bits_of 19 bits) srr
      ∙ ap (λ t. bits_of 11 upper ++ Recessive ∷ level_of t ∷ bits_of 19 bits) ide
      ∙ ap (λ t. bits_of 11 upper ++ Recessive ∷ Recessive ∷ t) rest

  -- as the code computes the bits
  extended_sum : bit_or (bit_or (bit_or (upper * 2 ^ 21 % 2 ^ 32) (3 * 2 ^ 19)) (lower * 2 % 2 ^ 32)) rtr ≡ extended_bits upper lower rtr
  extended_sum =
      let first : upper * 2 ^ 21 % 2 ^ 32 ≡ upper * 2 ^ 21 = omega arith in
      let second : lower * 2 % 2 ^ 32 ≡ lower * 2 = omega arith in
      let ones = upper * 2 ^ 21 + 3 * 2 ^ 19 in
      ap (λ t. bit_or (bit_or (bit_or t (3 * 2 ^ 19)) (lower * 2 % 2 ^ 32)) rtr) first
      ∙ ap (λ t. bit_or (bit_or (bit_or (upper * 2 ^ 21) (3 * 2 ^ 19)) t) rtr) second
      ∙ ap (λ t. bit_or (bit_or t (lower * 2)) rtr) (or_above upper 21 (upper * 2 ^ 21) (3 * 2 ^ 19) refl (omega arith))
      ∙ ap (λ t. bit_or t rtr) (or_above (upper * 4 + 3) 19 ones (lower * 2) (omega arith) (omega arith))
      ∙ or_above ((upper * 4 + 3) * 2 ^ 18 + lower) 1 (ones + lower * 2) rtr (omega arith) (omega arith)

-- ---- what the code computes from an identifier and RTR as a bit

module _ (raw : ℕ) (remote : Bool) (rtr : ℕ) (is : rtr ≡ bool_byte remote) where
  bit : rtr < 2
  bit = omega (arith, bool_byte-lt remote, is)

  level : level_of rtr ≡ level_from remote
  level = ap level_of is ∙ level_of-bool remote

  pub standard_key : raw < 2 ^ 11 → Keeps (bit_or (raw * 2 ^ 21 % 2 ^ 32) (rtr * 2 ^ 20 % 2 ^ 32)) (standard_field raw remote)
  standard_key range =
      let field : standard_field raw remote ≡ bits_of 11 raw ++ level_of rtr ∷ Dominant ∷ [] = ap (λ l. bits_of 11 raw ++ l ∷ Dominant ∷ []) (sym level) in
      rw (standard_sum raw rtr range bit, field) record { kept = standard_kept raw rtr range bit; is = standard_is raw rtr range bit }

  pub extended_key : raw < 2 ^ 29 → Keeps (bit_or (bit_or (bit_or (raw / 2 ^ 18 * 2 ^ 21 % 2 ^ 32) (3 * 2 ^ 19)) (bit_and raw (2 ^ 18 - 1) * 2 % 2 ^ 32)) rtr) (extended_field raw remote)
  extended_key range =
      let upper = raw / 2 ^ 18 in
      let lower = raw % 2 ^ 18 in
      let whole : upper * 2 ^ 18 + lower ≡ raw = omega arith in
      let high : upper < 2 ^ 11 = omega arith in
      let low : lower < 2 ^ 18 = omega arith in
      let rest : bits_of 18 raw ≡ bits_of 18 lower = ap (bits_of 18) (sym whole) ∙ bits_of-low 18 upper lower in
      let field : extended_field raw remote ≡ bits_of 11 upper ++ Recessive ∷ Recessive ∷ (bits_of 18 lower ++ level_of rtr ∷ []) =
      ap (λ t. bits_of 11 upper ++ Recessive ∷ Recessive ∷ (t ++ level_from remote ∷ [])) rest
      ∙ ap (λ l. bits_of 11 upper ++ Recessive ∷ Recessive ∷ (bits_of 18 lower ++ l ∷ [])) (sym level) in
      rw (and_mask raw 18, extended_sum upper lower rtr high low bit, field) record { kept = extended_kept upper lower rtr high low bit; is = extended_is upper lower rtr high low bit }
