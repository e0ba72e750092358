-- The field that a key keeps determines the key's bits. (The model of `Key` cites it.)
use Rattle.std.specs.Prelude.{◌≡◌, ℕ, ◌-◌, ◌*◌, ◌/◌, ◌^◌, ◌<◌, ◌==◌, if◌then◌else◌, length}
use Rattle.std.proofs.Common.{◌∙◌, ap, arith, inl, inr}
use Rattle.can_frame.specs.Levels.{bits_of}
use Rattle.can_frame.specs.KeyBits.{ide_bit, kept_field, IsKept, bits_to_keep}
use Rattle.can_frame.specs.LevelNumbers.{bit_cases, length-bits_of, number_from-whole}

pub kept_field-short : (bits : ℕ) → ide_bit bits ≡ 0 → kept_field bits ≡ bits_of 13 (bits / 2 ^ 19)
unfolding kept_field
kept_field-short bits e = ap (λ b. if b == 0 then bits_of 13 (bits / 2 ^ 19) else bits_of 32 bits) e

pub kept_field-long : (bits : ℕ) → ide_bit bits ≡ 1 → kept_field bits ≡ bits_of 32 bits
unfolding kept_field
kept_field-long bits e = ap (λ b. if b == 0 then bits_of 13 (bits / 2 ^ 19) else bits_of 32 bits) e

-- n levels of the number x keep x in the highest n of 32 bits
bits_to_keep-bits_of : (n x : ℕ) → x < 2 ^ n → bits_to_keep (bits_of n x) ≡ x * 2 ^ (32 - n)
bits_to_keep-bits_of n x within =
    ap (λ m. m * 2 ^ (32 - length (bits_of n x))) (number_from-whole n x within) ∙ ap (λ m. x * 2 ^ (32 - m)) (length-bits_of n x)

pub kept_again : (bits : ℕ) → IsKept bits → bits_to_keep (kept_field bits) ≡ bits
kept_again bits h = elim (bit_cases bits 19) [
  | inl short ↦
      let within : bits / 2 ^ 19 < 2 ^ 13 = omega (arith, h.range) in
      let whole : bits / 2 ^ 19 * 2 ^ (32 - 13) ≡ bits = omega (arith, h.zeros short) in
      ap bits_to_keep (kept_field-short bits short) ∙ bits_to_keep-bits_of 13 (bits / 2 ^ 19) within ∙ whole
  | inr long ↦
      let whole : bits * 2 ^ (32 - 32) ≡ bits = omega arith in
      ap bits_to_keep (kept_field-long bits long) ∙ bits_to_keep-bits_of 32 bits h.range ∙ whole
]
