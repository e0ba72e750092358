-- The hexadecimal digits of a number, and of bytes.
use Rattle.std.proofs.Common.{◌≡◌, ℕ, zero, suc, ◌+◌, ◌*◌, ◌/◌, ◌%◌, ◌^◌, ◌<◌, List, [], ◌∷◌, ◌++◌, length, get_or, Option, unwrap_or, refl, sym, ◌∙◌, ap, arith, zero-add, add-one}
use Rattle.std.proofs.Math.Nat.{suc-add, pow-suc, div-div-eq-div-mul, one-le-pow, div-one}
use Rattle.std.proofs.lemmas.Nat.{pow-add, div-mul-add}
use Rattle.std.proofs.lemmas.List.{same_from_push}
use Rattle.hex.specs.Hex.{encode_with, encode_lower, lower_digits, hex_digit_value}
use Rattle.hex.proofs.HexLemmas.{IsDigits-lower_digits}
use Rattle.can_frame.specs.Text.{hex_digits}

pub length-hex_digits : (k n : ℕ) → length (hex_digits k n) ≡ k
unfolding hex_digits
length-hex_digits zero n = refl
length-hex_digits (suc k) n = ap suc (length-hex_digits k n)

-- the upper digits, then the lower ones
pub hex_digits-add : (i j n : ℕ) → hex_digits (i + j) n ≡ hex_digits i (n / 16 ^ j) ++ hex_digits j n
unfolding hex_digits
hex_digits-add zero j n = ap (λ k. hex_digits k n) (zero-add j)
hex_digits-add (suc i) j n =
    let lower : n / 16 ^ (i + j) ≡ n / 16 ^ j / 16 ^ i =
    ap (λ m. n / m) (pow-add 16 i j ∙ omega arith) ∙ sym (div-div-eq-div-mul n (16 ^ j) (16 ^ i))
    in ap (λ k. hex_digits k n) (suc-add i j)
    ∙ ap (λ m. get_or lower_digits (m % 16) 0 ∷ hex_digits (i + j) n) lower
    ∙ ap (λ t. get_or lower_digits (n / 16 ^ j / 16 ^ i % 16) 0 ∷ t) (hex_digits-add i j n)

-- one digit determines the number's lowest four bits
pub hex_digits-one : (n : ℕ) → hex_digits 1 n ≡ get_or lower_digits (n % 16) 0 ∷ []
unfolding hex_digits
hex_digits-one n = ap (λ m. get_or lower_digits (m % 16) 0 ∷ []) (div-one n)

pub hex_digits-one_mod : (n : ℕ) → hex_digits 1 n ≡ hex_digits 1 (n % 16)
hex_digits-one_mod n =
    hex_digits-one n ∙ ap (λ m. get_or lower_digits m 0 ∷ []) (let e : n % 16 ≡ n % 16 % 16 = omega arith in e)
    ∙ sym (hex_digits-one (n % 16))

-- two digits determine the lowest byte
pub two_of_byte : (n : ℕ) → hex_digits 2 n ≡ hex_digits 2 (n % 256)
unfolding hex_digits
two_of_byte n =
    let high : n / 16 ^ 1 % 16 ≡ n % 256 / 16 ^ 1 % 16 = omega arith in
    let low : n / 16 ^ 0 % 16 ≡ n % 256 / 16 ^ 0 % 16 = omega arith in
    λ i. get_or lower_digits (high i) 0 ∷ get_or lower_digits (low i) 0 ∷ []

-- one more digit at the end
pub hex_digits-push : (k n d : ℕ) → d < 16 → hex_digits (k + 1) (16 * n + d) ≡ hex_digits k n ++ hex_digits 1 d
hex_digits-push k n d small =
    let upper : (16 * n + d) / 16 ^ 1 ≡ n = omega arith in
    let lowest : (16 * n + d) % 16 ≡ d % 16 = omega arith in
    hex_digits-add k 1 (16 * n + d) ∙ ap (λ m. hex_digits k m ++ hex_digits 1 (16 * n + d)) upper
    ∙ ap (λ t. hex_digits k n ++ t) (hex_digits-one (16 * n + d) ∙ ap (λ m. get_or lower_digits m 0 ∷ []) lowest
    ∙ sym (hex_digits-one d))

-- digits followed by any others are those of a number
pub hex_digits-shifted : (i j n : ℕ) → hex_digits (i + j) (n * 16 ^ j) ≡ hex_digits i n ++ hex_digits j (n * 16 ^ j)
hex_digits-shifted i j n =
    let positive : 0 < 16 ^ j = one-le-pow j 16 (omega arith) in
    let upper : n * 16 ^ j / 16 ^ j ≡ n = ap (λ m. m / 16 ^ j) (omega arith) ∙ div-mul-add n (16 ^ j) 0 positive in
    hex_digits-add i j (n * 16 ^ j) ∙ ap (λ m. hex_digits i m ++ hex_digits j (n * 16 ^ j)) upper

pub digit_same : (d e : ℕ) → d < 16 → e < 16 → get_or lower_digits d 0 ≡ get_or lower_digits e 0 → d ≡ e
digit_same d e hd he h =
    ap (λ (o : Option ℕ). unwrap_or o 0)
    (sym (IsDigits-lower_digits d hd) ∙ ap hex_digit_value h ∙ IsDigits-lower_digits e he)

-- numbers with the same digits
pub hex_digits-same : (k m n : ℕ) → m < 16 ^ k → n < 16 ^ k → hex_digits k m ≡ hex_digits k n → m ≡ n
hex_digits-same zero m n hm hn e = omega arith
hex_digits-same (suc k) m n hm hn e =
    let last : (x : ℕ) → hex_digits (suc k) x ≡ hex_digits k (x / 16) ++ get_or lower_digits (x % 16) 0 ∷ [] =
    λ x. ap (λ i. hex_digits i x) (sym (add-one k)) ∙ hex_digits-add k 1 x
    ∙ ap (λ t. hex_digits k (x / 16) ++ t) (hex_digits-one x) in
    let parts = same_from_push (hex_digits k (m / 16)) (hex_digits k (n / 16)) _ _ (sym (last m) ∙ e ∙ last n) in
    let upper : m / 16 ≡ n / 16 =
    hex_digits-same k (m / 16) (n / 16) (omega (arith, pow-suc 16 k)) (omega (arith, pow-suc 16 k)) parts.0 in
    let lower : m % 16 ≡ n % 16 = digit_same (m % 16) (n % 16) (omega arith) (omega arith) parts.1 in
    omega arith

-- a byte's text is its two digits
pub encode_lower-cons : (b : ℕ) (bytes : List ℕ) → b < 256 → encode_lower (b ∷ bytes) ≡ hex_digits 2 b ++ encode_lower bytes
unfolding encode_with hex_digits
encode_lower-cons b bytes small =
    let high : b / 16 ≡ b / 16 ^ 1 % 16 = omega arith in
    let low : b % 16 ≡ b / 16 ^ 0 % 16 = omega arith in
    ap (λ (p : ℕ × ℕ). get_or lower_digits p.0 0 ∷ get_or lower_digits p.1 0 ∷ encode_lower bytes) (λ i. (high i, low i))

pub encode_lower-append : (xs ys : List ℕ) → encode_lower (xs ++ ys) ≡ encode_lower xs ++ encode_lower ys
unfolding encode_with
encode_lower-append [] ys = refl
encode_lower-append (x ∷ xs) ys =
    ap (λ t. get_or lower_digits (x / 16) 0 ∷ get_or lower_digits (x % 16) 0 ∷ t) (encode_lower-append xs ys)

pub encode_lower-nil : encode_lower [] ≡ []
unfolding encode_with
encode_lower-nil = refl
