-- Lemmas on the levels of a number, `bits_of`, and on the number of levels, `number_from`.
use Rattle.std.proofs.Common.{◌≡◌, ℕ, suc, zero, ◌+◌, ◌*◌, ◌/◌, ◌%◌, ◌^◌, ◌<◌, List, [], ◌∷◌, ◌++◌, length, refl, sym, ◌∙◌, ap, arith}
use Rattle.std.specs.Int.{bit_at}
use Rattle.std.proofs.Math.Nat.{pow-suc}
use Rattle.std.proofs.lemmas.Nat.{shr-shr, shr_high}
use Rattle.std.proofs.lemmas.Nat.Bits.{bit_at_cat_low}
use Rattle.can_frame.specs.declared.level.Level.{Level}
use Rattle.can_frame.specs.declared.level.Level.TheVariants.{Dominant, Recessive}
use Rattle.can_frame.specs.Levels.{level_of, bits_of, number_from}
pub use Rattle.can_frame.specs.LevelNumbers.{bit_cases, length-bits_of, number_from-bits_of, number_from-whole}

-- the levels depend on the bits alone
pub bits_of-same : (n x y : ℕ) → ((i : ℕ) → i < n → bit_at x i ≡ bit_at y i) → bits_of n x ≡ bits_of n y
unfolding bits_of
bits_of-same zero x y h = refl
bits_of-same (suc n) x y h =
    let top : bit_at x n ≡ bit_at y n = h n (omega arith) in
    let rest = bits_of-same n x y (λ i l. h i (omega arith)) in
    ap (λ b. level_of b ∷ bits_of n x) top ∙ ap (λ t. level_of (bit_at y n) ∷ t) rest

-- the bits above the k lowest have no influence on their levels
pub bits_of-low : (k high low : ℕ) → bits_of k (high * 2 ^ k + low) ≡ bits_of k low
bits_of-low k high low = bits_of-same k (high * 2 ^ k + low) low (λ i within. bit_at_cat_low high k low i within)

-- the higher levels, and then the k lowest
pub bits_of-append : (j k x : ℕ) → bits_of (j + k) x ≡ bits_of j (x / 2 ^ k) ++ bits_of k x
unfolding bits_of
bits_of-append zero k x = ap (λ n. bits_of n x) (let e : 0 + k ≡ k = omega arith in e)
bits_of-append (suc j) k x =
    let size : suc j + k ≡ suc (j + k) = omega arith in
    let turn : k + j ≡ j + k = omega arith in
    let top : bit_at x (j + k) ≡ bit_at (x / 2 ^ k) j = sym (ap (λ t. t % 2) (shr-shr x k j ∙ ap (λ n. x / 2 ^ n) turn)) in
    ap (λ n. bits_of n x) size
    ∙ ap (λ b. level_of b ∷ bits_of (j + k) x) top
    ∙ ap (λ t. level_of (bit_at (x / 2 ^ k) j) ∷ t) (bits_of-append j k x)

-- the lowest bit is the last
pub bits_of-last : (n x : ℕ) → bits_of (suc n) x ≡ bits_of n (x / 2) ++ level_of (x % 2) ∷ []
unfolding bits_of
bits_of-last n x =
    let size : suc n ≡ n + 1 = omega arith in
    let low : x / 2 ^ 0 % 2 ≡ x % 2 = omega arith in
    ap (λ m. bits_of m x) size ∙ bits_of-append n 1 x ∙ ap (λ b. bits_of n (x / 2) ++ level_of b ∷ []) low

pub number_from-append : (n : ℕ) (a b : List Level) → number_from n (a ++ b) ≡ number_from (number_from n a) b
number_from-append n [] b = refl
number_from-append n (Dominant ∷ a) b = number_from-append (2 * n) a b
number_from-append n (Recessive ∷ a) b = number_from-append (2 * n + 1) a b

-- the levels ahead count 2 ^ length times
pub number_from-split : (n : ℕ) (a : List Level) → number_from n a ≡ n * 2 ^ length a + number_from 0 a
number_from-split n [] = omega arith
number_from-split n (Dominant ∷ a) =
    let double : n * 2 ^ suc (length a) ≡ n * (2 ^ length a * 2) = ap (λ t. n * t) (pow-suc 2 (length a)) in
    omega (arith, double, number_from-split (2 * n) a)
number_from-split n (Recessive ∷ a) =
    let double : n * 2 ^ suc (length a) ≡ n * (2 ^ length a * 2) = ap (λ t. n * t) (pow-suc 2 (length a)) in
    omega (arith, double, number_from-split (2 * n + 1) a, number_from-split 1 a)

pub number_from-lt : (a : List Level) → number_from 0 a < 2 ^ length a
number_from-lt [] = omega arith
number_from-lt (Dominant ∷ a) = omega (arith, pow-suc 2 (length a), number_from-lt a)
number_from-lt (Recessive ∷ a) = omega (arith, pow-suc 2 (length a), number_from-lt a, number_from-split 1 a)

number_from-high : (n : ℕ) (a : List Level) → number_from n a / 2 ^ length a ≡ n
number_from-high n a =
    ap (λ t. t / 2 ^ length a) (number_from-split n a) ∙ shr_high n (length a) (number_from 0 a) (number_from-lt a)

-- one more level back
level_back : (n : ℕ) (a : List Level) → bits_of (length a) (number_from n a) ≡ a → bits_of (suc (length a)) (number_from n a) ≡ level_of (n % 2) ∷ a
unfolding bits_of
level_back n a back =
    ap (λ t. level_of (t % 2) ∷ bits_of (length a) (number_from n a)) (number_from-high n a) ∙ ap (λ t. level_of (n % 2) ∷ t) back

-- the number determines the levels, once their count is known
pub bits_of-number_from : (n : ℕ) (a : List Level) → bits_of (length a) (number_from n a) ≡ a
unfolding bits_of
bits_of-number_from n [] = refl
bits_of-number_from n (Dominant ∷ a) =
    level_back (2 * n) a (bits_of-number_from (2 * n) a) ∙ ap (λ b. level_of b ∷ a) (let e : 2 * n % 2 ≡ 0 = omega arith in e)
bits_of-number_from n (Recessive ∷ a) =
    level_back (2 * n + 1) a (bits_of-number_from (2 * n + 1) a) ∙ ap (λ b. level_of b ∷ a) (let e : (2 * n + 1) % 2 ≡ 1 = omega arith in e)
