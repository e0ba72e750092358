-- The bits of a number as levels.
use Rattle.std.proofs.Common.{◌≡◌, ℕ, suc, zero, ◌+◌, ◌-◌, ◌*◌, ◌/◌, ◌%◌, ◌^◌, ◌<◌, ◌≤◌, List, [], ◌∷◌, ◌++◌, refl, sym, ◌∙◌, ap, arith, replicate, add-zero, append_assoc, ◌⊎◌, inl, inr}
use Rattle.std.specs.Prelude.{bit_xor}
use Rattle.std.specs.Int.{bit_at}
use Rattle.std.proofs.lemmas.Nat.Bits.{bit_at_xor, bit_at-zero, bit_at_cat_low}
use Rattle.std.proofs.lemmas.Nat.{shr_split, shl-shr}
use Rattle.can_frame.specs.declared.level.Level.{Level}
use Rattle.can_frame.specs.declared.level.Level.TheVariants.{Dominant}
use Rattle.can_frame.specs.Levels.{level_of, bits_of}
pub use Rattle.can_frame.proofs.LevelLemmas.{bit_cases, length-bits_of, bits_of-same, bits_of-append, number_from-split, number_from-lt, bits_of-number_from}
use Rattle.can_wire.specs.Crc.{plus, xor}

pub bits_of-zero : (x : ℕ) → bits_of 0 x ≡ []
unfolding bits_of
bits_of-zero x = refl

pub bits_of-suc : (n x : ℕ) → bits_of (suc n) x ≡ level_of (bit_at x n) ∷ bits_of n x
unfolding bits_of
bits_of-suc n x = refl

level_of-sum : (a b : ℕ) → (a ≡ 0) ⊎ (a ≡ 1) → (b ≡ 0) ⊎ (b ≡ 1) → level_of ((a + b) % 2) ≡ plus (level_of a) (level_of b)
level_of-sum a b (inl p) (inl q) = rw (p, q) refl
level_of-sum a b (inl p) (inr q) = rw (p, q) refl
level_of-sum a b (inr p) (inl q) = rw (p, q) refl
level_of-sum a b (inr p) (inr q) = rw (p, q) refl

pub bits_of-xor : (n x y : ℕ) → bits_of n (bit_xor x y) ≡ xor (bits_of n x) (bits_of n y)
unfolding bits_of
bits_of-xor zero x y = refl
bits_of-xor (suc n) x y =
    let top : level_of (bit_at (bit_xor x y) n) ≡ plus (level_of (bit_at x n)) (level_of (bit_at y n)) =
    ap level_of (bit_at_xor x y n) ∙ level_of-sum (bit_at x n) (bit_at y n) (bit_cases x n) (bit_cases y n) in
    ap (λ b. b ∷ bits_of n (bit_xor x y)) top ∙ ap (λ t. plus (level_of (bit_at x n)) (level_of (bit_at y n)) ∷ t) (bits_of-xor n x y)

-- the lowest bits of a number are those of what is left of it
pub bits_of-mod : (n w x : ℕ) → n ≤ w → bits_of n (x % 2 ^ w) ≡ bits_of n x
bits_of-mod n w x h = bits_of-same n (x % 2 ^ w) x (λ i l.
    let below : i < w = omega arith in sym (bit_at_cat_low (x / 2 ^ w) w (x % 2 ^ w) i below) ∙ ap (λ t. bit_at t i) (shr_split x w))

-- zero has only dominant bits
pub bits_of-none : (n : ℕ) → bits_of n 0 ≡ replicate n Dominant
unfolding bits_of
bits_of-none zero = refl
bits_of-none (suc n) = ap (λ b. level_of b ∷ bits_of n 0) (bit_at-zero n) ∙ ap (λ t. Dominant ∷ t) (bits_of-none n)

-- a shift to the left by k places
pub bits_of-shl : (n k x : ℕ) → bits_of (n + k) (x * 2 ^ k) ≡ bits_of n x ++ replicate k Dominant
bits_of-shl n k x =
    let low : bits_of k (x * 2 ^ k) ≡ bits_of k 0 = bits_of-same k (x * 2 ^ k) 0 (λ i l.
    ap (λ t. bit_at t i) (sym (add-zero (x * 2 ^ k))) ∙ bit_at_cat_low x k 0 i l) in
    bits_of-append n k (x * 2 ^ k) ∙ ap (λ t. bits_of n t ++ bits_of k (x * 2 ^ k)) (shl-shr x k) ∙ ap (λ t. bits_of n x ++ t) (low ∙ bits_of-none k)

-- after the levels that are there come the n lowest bits of x, the highest of them first
pub bits_of-pushed : (items : List Level) (n x : ℕ) → 0 < n → (items ++ level_of (bit_at x (n - 1)) ∷ []) ++ bits_of (n - 1) x ≡ items ++ bits_of n x
bits_of-pushed items zero x h = absurd (omega arith)
bits_of-pushed items (suc n) x h =
    let e : suc n - 1 ≡ n = omega arith in
    ap (λ k. (items ++ level_of (bit_at x k) ∷ []) ++ bits_of k x) e
    ∙ append_assoc items (level_of (bit_at x n) ∷ []) (bits_of n x) ∙ ap (λ t. items ++ t) (sym (bits_of-suc n x))
