-- The register as a number of fifteen bits, and its steps as code takes them.
use Rattle.std.proofs.Common.{◌≡◌, ℕ, zero, suc, ◌+◌, ◌-◌, ◌*◌, ◌/◌, ◌%◌, ◌^◌, ◌<◌, ◌≤◌, List, [], ◌∷◌, ◌++◌, length, refl, sym, ◌∙◌, ap, arith}
use Rattle.std.proofs.Math.Nat.{div-eq_of_lt}
use Rattle.std.specs.Prelude.{bit_and, bit_xor}
use mir.Val.{bool_byte}
use Rattle.std.proofs.lemmas.Nat.{and_mask}
use Rattle.can_frame.specs.declared.level.Level.{Level}
use Rattle.can_frame.specs.declared.level.Level.TheVariants.{Dominant, Recessive}
use Rattle.can_frame.specs.Levels.{is_recessive, bits_of}
use Rattle.can_wire.specs.Crc.{xor, crc_of}
use Rattle.can_wire.proofs.LevelLemmas.{length-bits_of, bits_of-append, bits_of-mod, bits_of-none, bits_of-shl, bits_of-xor}
use Rattle.can_wire.proofs.DivisionLemmas.{none}
use Rattle.can_wire.proofs.Register.{register, crc_of-behind_none, register-top}

-- the register moved up by k places
abbrev pub moved : ℕ → ℕ → ℕ
moved k r = bit_and (r * 2 ^ k % 2 ^ 16) 0x7fff

bits_of-moved : (n k r : ℕ) → n + k ≡ 15 → bits_of 15 (moved k r) ≡ bits_of n r ++ none k
bits_of-moved n k r h =
    let x = r * 2 ^ k in
    ap (bits_of 15) (and_mask (x % 2 ^ 16) 15) ∙ bits_of-mod 15 15 (x % 2 ^ 16) (omega arith) ∙ bits_of-mod 15 16 x (omega arith)
    ∙ ap (λ m. bits_of m x) (sym h) ∙ bits_of-shl n k r

-- k levels go in: the CRC sequence of their sum with the k highest bits is added to the shifted register
pub register-moved : (n k r : ℕ) (levels : List Level) → n + k ≡ 15 → length levels ≡ k
    → register (bits_of 15 r) levels ≡ xor (bits_of 15 (moved k r)) (crc_of (xor (bits_of k (r / 2 ^ n)) levels))
register-moved n k r levels h size =
    let top = bits_of k (r / 2 ^ n) in
    let low = bits_of n r in
    let swapped : 15 ≡ k + n = omega arith in
    let top_size : length top ≡ length levels = length-bits_of k (r / 2 ^ n) ∙ sym size in
    let low_size : length low + length levels ≡ 15 = omega (arith, length-bits_of n r) in
    ap (λ t. register t levels) (ap (λ m. bits_of m r) swapped ∙ bits_of-append k n r)
    ∙ register-top top low levels top_size low_size
    ∙ ap (λ t. xor t (crc_of (xor top levels))) (ap (λ m. low ++ none m) size ∙ sym (bits_of-moved n k r h))

-- this with the CRC sequence as a number
pub register-entry : (n k r entry : ℕ) (levels : List Level) → n + k ≡ 15 → length levels ≡ k → bits_of 15 entry ≡ crc_of (xor (bits_of k (r / 2 ^ n)) levels)
    → bits_of 15 (bit_xor (moved k r) entry) ≡ register (bits_of 15 r) levels
register-entry n k r entry levels h size e =
    bits_of-xor 15 (moved k r) entry ∙ ap (xor (bits_of 15 (moved k r))) e ∙ sym (register-moved n k r levels h size)

-- a number has one CRC sequence, with however many levels it is written
pub crc_of-wider : (n k x : ℕ) → n ≤ k → x < 2 ^ n → crc_of (bits_of k x) ≡ crc_of (bits_of n x)
crc_of-wider n k x h small =
    let j = k - n in
    let size : k ≡ j + n = omega arith in
    let none_above : bits_of j (x / 2 ^ n) ≡ none j = ap (bits_of j) (div-eq_of_lt small) ∙ bits_of-none j in
    ap (λ m. crc_of (bits_of m x)) size ∙ ap crc_of (bits_of-append j n x ∙ ap (λ t. t ++ bits_of n x) none_above) ∙ crc_of-behind_none j (bits_of n x)

-- The step by one level.

-- a level is the bit that code takes it for
pub level_bits : (x : Level) → bits_of 1 (bool_byte (is_recessive x)) ≡ x ∷ []
unfolding bits_of
level_bits Dominant = refl
level_bits Recessive = refl

pub level_byte-lt : (x : Level) → bool_byte (is_recessive x) < 2 ^ 1
level_byte-lt Dominant = omega arith
level_byte-lt Recessive = omega arith

-- the CRC sequence of one bit
crc_of-bit : (bit : ℕ) → bit ≤ 1 → bits_of 15 (bit * 0x4599) ≡ crc_of (bits_of 1 bit)
unfolding crc_of bits_of
crc_of-bit zero h = refl
crc_of-bit (suc zero) h = refl
crc_of-bit (suc (suc n)) h = absurd (omega arith)

pub register-fed : (r bit : ℕ) (x : Level) → bit ≤ 1 → bits_of 1 bit ≡ xor (bits_of 1 (r / 2 ^ 14)) (x ∷ []) → bits_of 15 (bit_xor (moved 1 r) (bit * 0x4599)) ≡ register (bits_of 15 r) (x ∷ [])
register-fed r bit x h e = register-entry 14 1 r (bit * 0x4599) (x ∷ []) refl refl (crc_of-bit bit h ∙ ap crc_of e)
