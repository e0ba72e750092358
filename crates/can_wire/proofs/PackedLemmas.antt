-- The levels of a number: one more after them, one at a place, and the number of some of them; and levels in the
-- highest bits of a register.
use Rattle.std.proofs.Common.{◌≡◌, ℕ, take, drop, replicate, Bool, true, false, suc, zero, ◌+◌, ◌-◌, ◌*◌, ◌/◌, ◌%◌, ◌^◌, ◌<◌, ◌≤◌, [], ◌∷◌, ◌++◌, ◌⊎◌, inl, inr, nat_eq, refl, sym, ◌∙◌, ap, subst, arith, add-zero}
use Rattle.std.specs.Int.{bit_at}
use Rattle.std.proofs.Math.Nat.{div-lt_iff_lt-mul, mod-eq_of_lt, mod-le, mul-lt-mul_of_pos_right}
use Rattle.std.proofs.Math.Pow.{mod-pow-add, pow-add}
use Rattle.std.proofs.lemmas.List.{drop_at, take_at, take-append-drop}
use Rattle.std.proofs.lemmas.Bool.{cases_lt}
use Rattle.std.proofs.lemmas.Nat.{mod_below, mod_low, mul-add-lt, pow_below, pow_pos, shl-shr, shr_high, shr-shr}
use mir.Val.{bool_byte}
use Rattle.can_frame.specs.declared.level.Level.{Level}
use Rattle.can_frame.specs.declared.level.Level.TheVariants.{Dominant, Recessive}
use Rattle.can_frame.specs.Levels.{bits_of, is_recessive, level_from, level_of, number_from}
use Rattle.can_frame.proofs.LevelLemmas.{bits_of-last, bits_of-low}
use Rattle.can_wire.specs.Layout.{filled, level_at, levels_at}
use Rattle.can_wire.proofs.LayoutNumbers.{number_from-bits_of}
use Rattle.can_wire.proofs.LayoutPlaces.{filled_whole, level_at-dominant, levels_at-dominant}
use Rattle.can_wire.proofs.LevelLemmas.{bit_cases, length-bits_of, bits_of-append, bits_of-mod, bits_of-none}

level_of-byte : (level : Level) → level_of (bool_byte (is_recessive level)) ≡ level
level_of-byte Dominant = refl
level_of-byte Recessive = refl

byte-small : (level : Level) → bool_byte (is_recessive level) ≤ 1
byte-small Dominant = omega arith
byte-small Recessive = omega arith

-- a number that is shifted by one place takes a level after those that it has
pub bits_of-next : (n x : ℕ) (level : Level) → bits_of (n + 1) (2 * x + bool_byte (is_recessive level)) ≡ bits_of n x ++ level ∷ []
bits_of-next n x level =
    let b = bool_byte (is_recessive level) in
    let y = 2 * x + b in
    let up : n + 1 ≡ suc n = omega arith in
    let half : y / 2 ≡ x = omega (arith, byte-small level) in
    let low : y % 2 ≡ b = omega (arith, byte-small level) in
    ap (λ m. bits_of m y) up ∙ bits_of-last n y ∙ ap (λ h. bits_of n h ++ level_of (y % 2) ∷ []) half
    ∙ ap (λ l. bits_of n x ++ level_of l ∷ []) low ∙ ap (λ l. bits_of n x ++ l ∷ []) (level_of-byte level)

-- it needs no more bits than it has levels
pub next-small : (n x : ℕ) (level : Level) → x < 2 ^ n → 2 * x + bool_byte (is_recessive level) < 2 ^ (n + 1)
next-small n x level small = omega (arith, byte-small level, pow-add 2 n 1)

pub bool_small : (b : Bool) → bool_byte b ≤ 1
bool_small true = omega arith
bool_small false = omega arith

-- and it fits a number of 64 bits if there are fewer than 64
pub next-fits : (n x : ℕ) → x < 2 ^ n → n < 64 → 2 * x + 1 < 2 ^ 64
next-fits n x small few = elim (cases_lt (n + 1) 64) [
  | inl fewer ↦ omega (arith, pow_below (n + 1) 64 fewer, pow-add 2 n 1)
  | inr last ↦ (let all : n + 1 ≡ 64 = omega arith in omega (arith, ap (λ m. 2 ^ m) all, pow-add 2 n 1))
]

-- what is left of a register of w bits that moves up by k places
moved-up : (w k x : ℕ) → k ≤ w → x * 2 ^ k % 2 ^ w ≡ x % 2 ^ (w - k) * 2 ^ k
moved-up w k x fits =
    let j = w - k in
    let h = x % 2 ^ j in
    let width : w ≡ j + k = omega arith in
    let nothing : x * 2 ^ k % 2 ^ k ≡ 0 = ap (λ t. t % 2 ^ k) (sym (add-zero (x * 2 ^ k))) ∙ mod_low x k 0 (pow_pos k) in
    ap (λ n. x * 2 ^ k % 2 ^ n) width ∙ mod-pow-add (x * 2 ^ k) j k ∙ ap (λ a. a % 2 ^ j * 2 ^ k + x * 2 ^ k % 2 ^ k) (shl-shr x k) ∙ ap (λ r. h * 2 ^ k + r) nothing ∙ add-zero (h * 2 ^ k)

-- there is space for a number of k bits below it
pub moved-fits : (w k x y : ℕ) → k ≤ w → y < 2 ^ k → x * 2 ^ k % 2 ^ w + y < 2 ^ w
moved-fits w k x y fits small =
    let j = w - k in
    let width : k + j ≡ w = omega arith in
    subst (λ m. m + y < 2 ^ w) (sym (moved-up w k x fits))
    (subst (λ m. x % 2 ^ j * 2 ^ k + y < m) (sym (pow-add 2 k j) ∙ ap (λ n. 2 ^ n) width) (mul-add-lt (x % 2 ^ j) (2 ^ k) y (2 ^ j) (mod_below x (2 ^ j) (pow_pos j)) small))

-- and it takes the levels of that number after those that it has
pub bits_of-moved : (w n k x y : ℕ) → n + k ≤ w → y < 2 ^ k → bits_of (n + k) (x * 2 ^ k % 2 ^ w + y) ≡ bits_of n x ++ bits_of k y
bits_of-moved w n k x y fits small =
    let j = w - k in
    let h = x % 2 ^ j in
    let z = h * 2 ^ k + y in
    let low : bits_of k z ≡ bits_of k y = sym (bits_of-mod k k z (omega arith)) ∙ ap (bits_of k) (mod_low h k y small) in
    ap (λ m. bits_of (n + k) (m + y)) (moved-up w k x (omega arith)) ∙ bits_of-append n k z ∙ ap (λ t. bits_of n t ++ bits_of k z) (shr_high h k y small)
    ∙ ap (λ t. t ++ bits_of k z) (bits_of-mod n j x (omega arith)) ∙ ap (λ t. bits_of n x ++ t) low

-- numbers of n and of k bits, one after the other, are one of n + k
pub joined-small : (w n k x y : ℕ) → x < 2 ^ n → y < 2 ^ k → n + k ≤ w → x * 2 ^ k % 2 ^ w + y < 2 ^ (n + k)
joined-small w n k x y few small fits =
    let all : x * 2 ^ k + y < 2 ^ (n + k) = subst (λ m. x * 2 ^ k + y < m) (sym (pow-add 2 k n) ∙ (let turned : k + n ≡ n + k = omega arith in ap (λ e. 2 ^ e) turned)) (mul-add-lt x (2 ^ k) y (2 ^ n) few small) in
    omega (arith, all, mod-le (x * 2 ^ k) (2 ^ w))

-- the level of a bit, by its test
pub level_from-bit : (x i : ℕ) → level_from (nat_eq (bit_at x i) 1) ≡ level_of (bit_at x i)
level_from-bit x i = of (bit_at x i) (bit_cases x i)
  where
    of : (b : ℕ) → (b ≡ 0) ⊎ (b ≡ 1) → level_from (nat_eq b 1) ≡ level_of b
    of b (inl e) = rw e refl
    of b (inr e) = rw e refl

-- the highest bit of a number comes first
pub level_at-bits_of : (n x p : ℕ) → p < n → level_at (bits_of n x) p ≡ level_of (bit_at x (n - 1 - p))
unfolding bits_of
level_at-bits_of zero x p h = absurd (omega arith)
level_at-bits_of (suc n) x zero h = ap (λ k. level_of (bit_at x k)) (let e : n ≡ suc n - 1 - 0 = omega arith in e)
level_at-bits_of (suc n) x (suc p) h = level_at-bits_of n x p (omega arith) ∙ ap (λ k. level_of (bit_at x k)) (let e : n - 1 - p ≡ suc n - 1 - suc p = omega arith in e)

-- the number of the k levels from place p on, which b levels follow
pub number_at-bits_of : (n x p k b : ℕ) → n ≡ p + (k + b) → number_from 0 (levels_at (bits_of n x) p k) ≡ x / 2 ^ b % 2 ^ k
number_at-bits_of n x p k b size =
    let before = bits_of p (x / 2 ^ (k + b)) in
    let these = bits_of k (x / 2 ^ b) in
    let parts : bits_of n x ≡ before ++ (these ++ bits_of b x) =
    ap (λ m. bits_of m x) size ∙ bits_of-append p (k + b) x ∙ ap (λ l. before ++ l) (bits_of-append k b x) in
    let at : levels_at (bits_of n x) p k ≡ these =
    ap (λ l. levels_at l p k) parts ∙ ap (filled k) (drop_at before (these ++ bits_of b x) p (length-bits_of p (x / 2 ^ (k + b))))
    ∙ filled_whole k these (bits_of b x) (length-bits_of k (x / 2 ^ b)) in
    ap (number_from 0) at ∙ number_from-bits_of k 0 (x / 2 ^ b) ∙ (let e : 0 * 2 ^ k + x / 2 ^ b % 2 ^ k ≡ x / 2 ^ b % 2 ^ k = omega arith in e)

-- ---- levels in the highest bits of a register of 128 bits

highest : (n m x : ℕ) → n + m ≡ 128 → take n (bits_of 128 x) ≡ bits_of n (x / 2 ^ m)
highest n m x size =
    ap (λ w. take n (bits_of w x)) (sym size) ∙ ap (take n) (bits_of-append n m x) ∙ take_at (bits_of n (x / 2 ^ m)) (bits_of m x) n (length-bits_of n (x / 2 ^ m))

lowest : (n m x : ℕ) → n + m ≡ 128 → drop n (bits_of 128 x) ≡ bits_of m x
lowest n m x size =
    ap (λ w. drop n (bits_of w x)) (sym size) ∙ ap (drop n) (bits_of-append n m x) ∙ drop_at (bits_of n (x / 2 ^ m)) (bits_of m x) n (length-bits_of n (x / 2 ^ m))

above-small : (n m x : ℕ) → n + m ≡ 128 → x < 2 ^ 128 → x / 2 ^ m < 2 ^ n
above-small n m x size small =
    let power : 2 ^ n * 2 ^ m ≡ 2 ^ 128 = sym (pow-add 2 n m) ∙ ap (λ e. 2 ^ e) size in
    (div-lt_iff_lt-mul (pow_pos m)).1 (omega (arith, small, power))

-- if only dominant ones are below them
above-whole : (m x : ℕ) → bits_of m x ≡ replicate m Dominant → x ≡ x / 2 ^ m * 2 ^ m
above-whole m x clear =
    let same : number_from 0 (bits_of m x) ≡ number_from 0 (bits_of m 0) = ap (number_from 0) (clear ∙ sym (bits_of-none m)) in
    let nothing : 0 % 2 ^ m ≡ 0 = mod-eq_of_lt (pow_pos m) in
    omega (arith, same, number_from-bits_of m 0 x, number_from-bits_of m 0 0, nothing, pow_pos m)

bits_of-clear : (m h : ℕ) → bits_of m (h * 2 ^ m) ≡ replicate m Dominant
bits_of-clear m h = ap (bits_of m) (sym (add-zero (h * 2 ^ m))) ∙ bits_of-low m h 0 ∙ bits_of-none m

-- the k levels of y are appended to the n that x has, followed by dominant ones
pub record IsPut (n k x y z : ℕ) : Type 0 where
  pub small : z < 2 ^ 128
  pub levels : take (n + k) (bits_of 128 z) ≡ take n (bits_of 128 x) ++ bits_of k y
  pub behind : drop (n + k) (bits_of 128 z) ≡ replicate (128 - (n + k)) Dominant

module _ (n k x y : ℕ) (fits : n + k ≤ 128) (small : x < 2 ^ 128) (behind : drop n (bits_of 128 x) ≡ replicate (128 - n) Dominant) (few : y < 2 ^ k) where
  put : x + y * 2 ^ (128 - n - k) ≡ (x / 2 ^ (128 - n) * 2 ^ k + y) * 2 ^ (128 - n - k)
  put =
      let size : n + (128 - n) ≡ 128 = omega (arith, fits) in
      let parts : 128 - n ≡ k + (128 - n - k) = omega (arith, fits) in
      let power : 2 ^ (128 - n) ≡ 2 ^ k * 2 ^ (128 - n - k) = ap (λ e. 2 ^ e) parts ∙ pow-add 2 k (128 - n - k) in
      let h = x / 2 ^ (128 - n) in
      let whole : x ≡ h * (2 ^ k * 2 ^ (128 - n - k)) = above-whole (128 - n) x (sym (lowest n (128 - n) x size) ∙ behind) ∙ ap (λ t. h * t) power in
      omega (arith, whole)

  rest : n + k + (128 - n - k) ≡ 128
  rest = omega (arith, fits)

  put-small : x / 2 ^ (128 - n) * 2 ^ k + y < 2 ^ (n + k)
  put-small =
      let size : n + (128 - n) ≡ 128 = omega (arith, fits) in
      let turned : k + n ≡ n + k = omega arith in
      let power : 2 ^ k * 2 ^ n ≡ 2 ^ (n + k) = sym (pow-add 2 k n) ∙ ap (λ e. 2 ^ e) turned in
      omega (arith, power, mul-add-lt (x / 2 ^ (128 - n)) (2 ^ k) y (2 ^ n) (above-small n (128 - n) x size small) few)

  highest-small : x + y * 2 ^ (128 - n - k) < 2 ^ 128
  highest-small =
      let power : 2 ^ (n + k) * 2 ^ (128 - n - k) ≡ 2 ^ 128 = sym (pow-add 2 (n + k) (128 - n - k)) ∙ ap (λ e. 2 ^ e) rest in
      omega (arith, put, power, mul-lt-mul_of_pos_right put-small (pow_pos (128 - n - k)))

  highest-more : take (n + k) (bits_of 128 (x + y * 2 ^ (128 - n - k))) ≡ take n (bits_of 128 x) ++ bits_of k y
  highest-more =
      let size : n + (128 - n) ≡ 128 = omega (arith, fits) in
      let h = x / 2 ^ (128 - n) in
      let z = h * 2 ^ k + y in
      ap (λ t. take (n + k) (bits_of 128 t)) put ∙ highest (n + k) (128 - n - k) (z * 2 ^ (128 - n - k)) rest ∙ ap (bits_of (n + k)) (shl-shr z (128 - n - k))
      ∙ bits_of-append n k z ∙ ap (λ t. bits_of n t ++ bits_of k z) (shr_high h k y few) ∙ ap (λ t. bits_of n h ++ t) (bits_of-low k h y)
      ∙ ap (λ t. t ++ bits_of k y) (sym (highest n (128 - n) x size))

  behind-more : drop (n + k) (bits_of 128 (x + y * 2 ^ (128 - n - k))) ≡ replicate (128 - (n + k)) Dominant
  behind-more =
      let z = x / 2 ^ (128 - n) * 2 ^ k + y in
      let left : 128 - n - k ≡ 128 - (n + k) = omega arith in
      ap (λ t. drop (n + k) (bits_of 128 t)) put ∙ lowest (n + k) (128 - n - k) (z * 2 ^ (128 - n - k)) rest ∙ bits_of-clear (128 - n - k) z ∙ ap (λ m. replicate m Dominant) left

  -- the register with them, as code has it
  put-is : (read more shift : ℕ) → read ≡ x → more ≡ y → shift ≡ 128 - n - k → read + more * 2 ^ shift % 2 ^ 128 ≡ x + y * 2 ^ (128 - n - k)
  put-is read more shift of_read of_more of_shift =
      let below : y * 2 ^ (128 - n - k) < 2 ^ 128 = omega (arith, highest-small) in
      ap (λ t. t + more * 2 ^ shift % 2 ^ 128) of_read ∙ ap (λ t. x + t * 2 ^ shift % 2 ^ 128) of_more ∙ ap (λ e. x + y * 2 ^ e % 2 ^ 128) of_shift
      ∙ ap (λ t. x + t) (mod-eq_of_lt below)

  pub is_put : (z read more shift : ℕ) → z ≡ read + more * 2 ^ shift % 2 ^ 128 → read ≡ x → more ≡ y → shift ≡ 128 - n - k → IsPut n k x y z
  is_put z read more shift is of_read of_more of_shift =
      let same : z ≡ x + y * 2 ^ (128 - n - k) = is ∙ put-is read more shift of_read of_more of_shift in record {
        small = subst (λ t. t < 2 ^ 128) (sym same) highest-small;
        levels = ap (λ t. take (n + k) (bits_of 128 t)) same ∙ highest-more;
        behind = ap (λ t. drop (n + k) (bits_of 128 t)) same ∙ behind-more;
      }

-- dominant levels after a list change none of its places, so those of the register are its places
pub level_at-highest : (n x p : ℕ) → drop n (bits_of 128 x) ≡ replicate (128 - n) Dominant → p < 128 → level_at (take n (bits_of 128 x)) p ≡ level_of (bit_at x (127 - p))
level_at-highest n x p behind within =
    let top = take n (bits_of 128 x) in
    sym (level_at-dominant top (128 - n) p) ∙ ap (λ t. level_at (top ++ t) p) (sym behind) ∙ ap (λ u. level_at u p) (take-append-drop n (bits_of 128 x))
    ∙ level_at-bits_of 128 x p within ∙ ap (λ i. level_of (bit_at x i)) (let e : 128 - 1 - p ≡ 127 - p = omega arith in e)

pub number_at-highest : (n x p k : ℕ) → drop n (bits_of 128 x) ≡ replicate (128 - n) Dominant → p + k ≤ 127
    → number_from 0 (levels_at (take n (bits_of 128 x)) p k) ≡ x / 2 / 2 ^ (127 - p - k) % 2 ^ k
number_at-highest n x p k behind within =
    let top = take n (bits_of 128 x) in
    let b = 128 - p - k in
    let size : 128 ≡ p + (k + b) = omega (arith, within) in
    let below : 1 + (127 - p - k) ≡ b = omega (arith, within) in
    ap (number_from 0) (sym (levels_at-dominant top (128 - n) p k) ∙ ap (λ t. levels_at (top ++ t) p k) (sym behind) ∙ ap (λ u. levels_at u p k) (take-append-drop n (bits_of 128 x)))
    ∙ number_at-bits_of 128 x p k b size ∙ ap (λ t. t % 2 ^ k) (sym (shr-shr x 1 (127 - p - k) ∙ ap (λ e. x / 2 ^ e) below))

-- the number that they are, without what follows them
pub highest-number : (n x : ℕ) → n ≤ 118 → x < 2 ^ 128 → (x / 2 ^ (128 - n) < 2 ^ n) × (bits_of n (x / 2 ^ (128 - n)) ≡ take n (bits_of 128 x))
highest-number n x few small =
    let size : n + (128 - n) ≡ 128 = omega (arith, few) in
    (above-small n (128 - n) x size small, sym (highest n (128 - n) x size))
