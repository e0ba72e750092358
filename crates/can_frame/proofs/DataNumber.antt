-- The bytes of a number, shifted to the front of eight.
use Rattle.std.proofs.Common.{◌≡◌, ℕ, zero, suc, ◌+◌, ◌-◌, ◌*◌, ◌/◌, ◌%◌, ◌^◌, ◌<◌, ◌≤◌, List, [], ◌∷◌, ◌++◌, length, take, drop, get_or, replicate, refl, sym, ◌∙◌, ap, arith}
use Rattle.std.specs.Int.{byte_at, bytes_high_first, to_be_bytes, w64}
use Rattle.std.proofs.Math.Nat.{div-div-eq-div-mul, mul-div_cancel}
use Rattle.std.proofs.lemmas.List.{drop_at, take_at}
use Rattle.std.proofs.lemmas.Nat.{pow-add, pow_pos, shl_below, shl_whole}

-- ---- powers

pub power-256 : (k : ℕ) → 256 ^ k ≡ 2 ^ (8 * k)
power-256 zero = refl
power-256 (suc k) =
    let last : 256 ^ suc k ≡ 256 ^ k * 256 ^ 1 = ap (λ m. 256 ^ m) (let e : suc k ≡ k + 1 = omega arith in e) ∙ pow-add 256 k 1 in
    last ∙ ap (λ p. p * 2 ^ 8) (power-256 k) ∙ sym (pow-add 2 (8 * k) 8) ∙ ap (λ m. 2 ^ m) (let e : 8 * k + 8 ≡ 8 * suc k = omega arith in e)

power-positive : (k : ℕ) → 0 < 256 ^ k
power-positive k = omega (arith, power-256 k, pow_pos (8 * k))

-- ---- bytes

byte_at-quotient : (i n : ℕ) → byte_at i n ≡ n / 256 ^ i % 256
byte_at-quotient zero n = ap (λ m. m % 256) (let e : n ≡ n / 256 ^ 0 = omega arith in e)
byte_at-quotient (suc i) n = refl

-- bytes followed by zeros are bytes
pub filled-small : (bytes : List ℕ) (filling i : ℕ) → ((k : ℕ) → get_or bytes k 0 < 256) → get_or (bytes ++ replicate filling 0) i 0 < 256
filled-small [] zero i small = omega arith
filled-small [] (suc filling) zero small = omega arith
filled-small [] (suc filling) (suc i) small = filled-small [] filling i small
filled-small (b ∷ bytes) filling zero small = small 0
filled-small (b ∷ bytes) filling (suc i) small = filled-small bytes filling i (λ k. small (suc k))

-- a byte moves up with its number
byte_at-up : (i k n : ℕ) → byte_at (i + k) (n * 256 ^ k) ≡ byte_at i n
byte_at-up i k n =
    let split : n * 256 ^ k / 256 ^ (i + k) ≡ n * 256 ^ k / 256 ^ k / 256 ^ i =
    ap (λ m. n * 256 ^ k / 256 ^ m) (let e : i + k ≡ k + i = omega arith in e)
    ∙ ap (λ p. n * 256 ^ k / p) (pow-add 256 k i) ∙ sym (div-div-eq-div-mul (n * 256 ^ k) (256 ^ k) (256 ^ i)) in
    byte_at-quotient (i + k) (n * 256 ^ k) ∙ ap (λ q. q % 256) (split ∙ ap (λ m. m / 256 ^ i) (mul-div_cancel n (power-positive k)))
    ∙ sym (byte_at-quotient i n)

-- and zeros follow it
zero_byte : (i above n : ℕ) → byte_at i (n * 256 ^ (above + 1 + i)) ≡ 0
zero_byte i above n =
    let whole : n * 256 ^ (above + 1 + i) ≡ n * 256 ^ above * 256 * 256 ^ i =
    ap (λ p. n * p) (pow-add 256 (above + 1) i ∙ ap (λ p. p * 256 ^ i) (pow-add 256 above 1)) ∙ nat_product n (256 ^ above) (256 ^ i) in
    byte_at-quotient i (n * 256 ^ (above + 1 + i)) ∙ ap (λ m. m / 256 ^ i % 256) whole
    ∙ ap (λ q. q % 256) (mul-div_cancel (n * 256 ^ above * 256) (power-positive i)) ∙ (let e : n * 256 ^ above * 256 % 256 ≡ 0 = omega arith in e)
  where
    nat_product : (a b c : ℕ) → a * (b * 256 ^ 1 * c) ≡ a * b * 256 * c
    nat_product a b c = omega arith

zero_bytes : (i k n : ℕ) → i ≤ k → bytes_high_first i (n * 256 ^ k) ≡ replicate i 0
zero_bytes zero k n within = refl
zero_bytes (suc i) k n within =
    let place : k ≡ k - suc i + 1 + i = omega arith in
    ap (λ x. x ∷ bytes_high_first i (n * 256 ^ k)) (ap (λ m. byte_at i (n * 256 ^ m)) place ∙ zero_byte i (k - suc i) n)
    ∙ ap (λ t. 0 ∷ t) (zero_bytes i k n (omega arith))

bytes-up : (j k n : ℕ) → bytes_high_first (j + k) (n * 256 ^ k) ≡ bytes_high_first j n ++ replicate k 0
bytes-up zero k n = ap (λ i. bytes_high_first i (n * 256 ^ k)) (let e : 0 + k ≡ k = omega arith in e) ∙ zero_bytes k k n (omega arith)
bytes-up (suc j) k n =
    ap (λ i. bytes_high_first i (n * 256 ^ k)) (let e : suc j + k ≡ suc (j + k) = omega arith in e)
    ∙ ap (λ x. x ∷ bytes_high_first (j + k) (n * 256 ^ k)) (byte_at-up j k n) ∙ ap (λ t. byte_at j n ∷ t) (bytes-up j k n)

length-bytes : (k n : ℕ) → length (bytes_high_first k n) ≡ k
length-bytes zero n = refl
length-bytes (suc k) n = ap suc (length-bytes k n)

-- the last of the eight bytes of a number
pub last_bytes : (k n : ℕ) → k ≤ 8 → drop (8 - k) (bytes_high_first 8 n) ≡ bytes_high_first k n
last_bytes zero n h = refl
last_bytes (suc zero) n h = refl
last_bytes (suc (suc zero)) n h = refl
last_bytes (suc (suc (suc zero))) n h = refl
last_bytes (suc (suc (suc (suc zero)))) n h = refl
last_bytes (suc (suc (suc (suc (suc zero))))) n h = refl
last_bytes (suc (suc (suc (suc (suc (suc zero)))))) n h = refl
last_bytes (suc (suc (suc (suc (suc (suc (suc zero))))))) n h = refl
last_bytes (suc (suc (suc (suc (suc (suc (suc (suc zero)))))))) n h = refl
last_bytes (suc (suc (suc (suc (suc (suc (suc (suc (suc k))))))))) n h = absurd (omega arith)

-- ---- a number moved up in two halves

pub moved : (count n : ℕ) → count ≤ 8 → n < 2 ^ (8 * count)
    → (n * 2 ^ (4 * (8 - count)) % 2 ^ 64) * 2 ^ (4 * (8 - count)) % 2 ^ 64 ≡ n * 256 ^ (8 - count)
moved count n few small =
    let half = 4 * (8 - count) in
    let once = shl_whole n (8 * count) half 64 small (omega arith) in
    let more = shl_below n (8 * count) half small in
    ap (λ m. m * 2 ^ half % 2 ^ 64) once
    ∙ shl_whole (n * 2 ^ half) (8 * count + half) half 64 more (omega arith)
    ∙ twice n (2 ^ half) ∙ ap (λ p. n * p) (sym (pow-add 2 half half) ∙ ap (λ m. 2 ^ m) (let e : half + half ≡ 8 * (8 - count) = omega arith in e)
    ∙ sym (power-256 (8 - count)))
  where
    twice : (a b : ℕ) → a * b * b ≡ a * (b * b)
    twice a b = omega arith

-- the store of the data bytes that are the last of a number's eight
stored : (count n : ℕ) → count ≤ 8 → to_be_bytes w64 (n * 256 ^ (8 - count)) ≡ drop (8 - count) (to_be_bytes w64 n) ++ replicate (8 - count) 0
stored count n few =
    ap (λ k. bytes_high_first k (n * 256 ^ (8 - count))) (let e : 8 ≡ count + (8 - count) = omega arith in e)
    ∙ bytes-up count (8 - count) n ∙ ap (λ t. t ++ replicate (8 - count) 0) (sym (last_bytes count n few))

size-last : (count n : ℕ) → count ≤ 8 → length (drop (8 - count) (to_be_bytes w64 n)) ≡ count
size-last count n few = ap length (last_bytes count n few) ∙ length-bytes count n

pub stored_front : (count n : ℕ) → count ≤ 8 → take count (to_be_bytes w64 (n * 256 ^ (8 - count))) ≡ drop (8 - count) (to_be_bytes w64 n)
stored_front count n few = ap (take count) (stored count n few) ∙ take_at (drop (8 - count) (to_be_bytes w64 n)) (replicate (8 - count) 0) count (size-last count n few)

pub stored_rest : (count n : ℕ) → count ≤ 8 → drop count (to_be_bytes w64 (n * 256 ^ (8 - count))) ≡ replicate (8 - count) 0
stored_rest count n few = ap (drop count) (stored count n few) ∙ drop_at (drop (8 - count) (to_be_bytes w64 n)) (replicate (8 - count) 0) count (size-last count n few)
