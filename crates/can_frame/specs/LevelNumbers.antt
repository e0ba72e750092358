-- The levels of a number determine the number.
use Rattle.std.specs.Prelude.{◌≡◌, ℕ, suc, zero, ◌+◌, ◌*◌, ◌/◌, ◌%◌, ◌^◌, ◌<◌, ◌⊎◌, List, ◌∷◌, length}
use Rattle.std.specs.Int.{bit_at}
use Rattle.std.proofs.Common.{refl, sym, ◌∙◌, ap, arith, inl, inr}
use Rattle.std.proofs.Math.Nat.{pow-suc, mod-eq_of_lt}
use Rattle.std.proofs.lemmas.Nat.{mod-pow-add}
use Rattle.std.proofs.lemmas.Nat.Bits.{bit_at-lt}
use Rattle.can_frame.specs.declared.level.Level.{Level}
use Rattle.can_frame.specs.Levels.{level_of, bits_of, number_from}

-- a bit is 0 or 1
pub bit_cases : (x i : ℕ) → (bit_at x i ≡ 0) ⊎ (bit_at x i ≡ 1)
bit_cases x i = two (bit_at x i) (bit_at-lt x i)
  where
    two : (b : ℕ) → b < 2 → (b ≡ 0) ⊎ (b ≡ 1)
    two zero h = inl refl
    two (suc zero) h = inr refl
    two (suc (suc b)) h = absurd (omega arith)

pub length-bits_of : (n x : ℕ) → length (bits_of n x) ≡ n
unfolding bits_of
length-bits_of zero x = refl
length-bits_of (suc n) x = ap suc (length-bits_of n x)

number_from-level : (n b : ℕ) (rest : List Level) → (b ≡ 0) ⊎ (b ≡ 1) → number_from n (level_of b ∷ rest) ≡ number_from (2 * n + b) rest
number_from-level n b rest (inl e) =
    ap (λ t. number_from n (level_of t ∷ rest)) e ∙ ap (λ t. number_from t rest) (let k : 2 * n ≡ 2 * n + b = omega arith in k)
number_from-level n b rest (inr e) =
    ap (λ t. number_from n (level_of t ∷ rest)) e ∙ ap (λ t. number_from t rest) (let k : 2 * n + 1 ≡ 2 * n + b = omega arith in k)

-- the k lowest levels of x, after those of n
pub number_from-bits_of : (k n x : ℕ) → number_from n (bits_of k x) ≡ n * 2 ^ k + x % 2 ^ k
unfolding bits_of
number_from-bits_of zero n x = omega arith
number_from-bits_of (suc k) n x =
    let b = x / 2 ^ k % 2 in
    let one : 1 + k ≡ suc k = omega arith in
    let split : x % 2 ^ suc k ≡ b * 2 ^ k + x % 2 ^ k = ap (λ t. x % 2 ^ t) (sym one) ∙ mod-pow-add x 1 k in
    let double : n * 2 ^ suc k ≡ n * (2 ^ k * 2) = ap (λ t. n * t) (pow-suc 2 k) in
    let sums : (2 * n + b) * 2 ^ k + x % 2 ^ k ≡ n * 2 ^ suc k + x % 2 ^ suc k = omega (arith, split, double) in
    number_from-level n b (bits_of k x) (bit_cases x k) ∙ number_from-bits_of k (2 * n + b) x ∙ sums

-- a number below 2 ^ k is determined by its k lowest levels
pub number_from-whole : (k x : ℕ) → x < 2 ^ k → number_from 0 (bits_of k x) ≡ x
number_from-whole k x h = number_from-bits_of k 0 x ∙ (let e : 0 * 2 ^ k + x % 2 ^ k ≡ x = omega (arith, mod-eq_of_lt h) in e)
