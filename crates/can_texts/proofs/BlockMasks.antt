-- Bytes of a block by masks of their places.
use Rattle.std.proofs.Common.{◌≡◌, ℕ, suc, ◌+◌, ◌^◌, ◌<◌, ◌≤◌, ◌||◌, eqb, cond, Bool, true, false, not, List, [], ◌∷◌, length, map, take, refl, sym, ap, subst, ◌∙◌, arith}
use Rattle.std.proofs.Math.Nat.{pow-suc}
use Rattle.std.proofs.lemmas.Bool.{eqb-true, false≢true}
use Rattle.std.proofs.lemmas.List.{length-take-le, take-take}
use Rattle.std.proofs.lemmas.List.Sums.{prefix_len-le-length}
use Rattle.std.proofs.lemmas.Simd.{leading_from_mask_l, trailing_mask_l}
use Rattle.std.specs.List.{AllByRecursion, prefix_len}
use lib.Count.{count_trailing_zeros}
use lib.Lanes.{mask_l}
use Rattle.can_texts.specs.TraceText.{IsTraceText, is_skipped}
use Rattle.can_texts.specs.Decoding.{AreDigits, AreSkipped}
use Rattle.can_texts.proofs.GatheredDigits.{AreDigits-append, AreDigits-one, by_digit}
use Rattle.can_texts.proofs.SkippedBytes.{AreSkipped-append, skipped_byte}

bit-small : (b : Bool) → cond b 1 0 ≤ 1
bit-small true = omega arith
bit-small false = omega arith

bit-or : (a b : Bool) → (a ≡ true → b ≡ true → ⊥) → ◌≡◌ {A = ℕ} (cond a 1 0 + cond b 1 0) (cond (a || b) 1 0)
bit-or true true not_both = absurd (not_both refl refl)
bit-or true false not_both = refl
bit-or false b not_both = omega arith

bit-one : (b : Bool) → ◌≡◌ {A = ℕ} (cond b 1 0) 1 → b ≡ true
bit-one true is = refl
bit-one false is = absurd (omega (arith, is))

-- a mask is below the power of two of its width
pub mask-small : (f : ℕ → Bool) (bytes : List ℕ) → mask_l (map f bytes) < 2 ^ length bytes
mask-small f [] = omega arith
mask-small f (x ∷ bytes) = omega (arith, bit-small (f x), mask-small f bytes, pow-suc 2 (length bytes))

-- masks of bytes of which none is in both
pub mask-or : (f g : ℕ → Bool) → ((x : ℕ) → f x ≡ true → g x ≡ true → ⊥) → (bytes : List ℕ) → mask_l (map f bytes) + mask_l (map g bytes) ≡ mask_l (map (λ x. f x || g x) bytes)
mask-or f g apart [] = refl
mask-or f g apart (x ∷ bytes) = omega (arith, bit-or (f x) (g x) (apart x), mask-or f g apart bytes)

-- if the mask has all bits, all bytes are meant
mask-all : (f : ℕ → Bool) (bytes : List ℕ) → mask_l (map f bytes) + 1 ≡ 2 ^ length bytes → AllByRecursion (λ x. f x ≡ true) bytes
mask-all f [] full = tt
mask-all f (x ∷ bytes) full =
    let power = pow-suc 2 (length bytes) in
    (bit-one (f x) (omega (arith, full, power, bit-small (f x))), mask-all f bytes (omega (arith, full, power, bit-small (f x))))

bit-not : (b : Bool) → cond b 1 0 + cond (not b) 1 0 ≡ 1
bit-not true = refl
bit-not false = refl

-- the mask of all other bytes has the other bits
pub mask-not : (f : ℕ → Bool) (bytes : List ℕ) → mask_l (map f bytes) + mask_l (map (λ x. not (f x)) bytes) + 1 ≡ 2 ^ length bytes
mask-not f [] = refl
mask-not f (x ∷ bytes) = omega (arith, bit-not (f x), mask-not f bytes, pow-suc 2 (length bytes))

-- ---- digits, and what is skipped

pub other_digits : (a b x : ℕ) → (a ≡ b → ⊥) → eqb x a ≡ true → eqb x b ≡ true → ⊥
other_digits a b x other is_a is_b = other (sym (eqb-true x a is_a) ∙ eqb-true x b is_b)

all_digits : (bytes : List ℕ) → AllByRecursion (λ x. (eqb x 48 || eqb x 49) ≡ true) bytes → AreDigits bytes
all_digits [] are = refl
all_digits (x ∷ bytes) are = AreDigits-append (x ∷ []) bytes (AreDigits-one x are.0) (all_digits bytes are.1)

all_skipped : (bytes : List ℕ) → AllByRecursion (λ x. is_skipped x ≡ true) bytes → AreSkipped bytes
all_skipped [] are = (tt, refl)
all_skipped (x ∷ bytes) are = AreSkipped-append (x ∷ []) bytes (skipped_byte x are.0) (all_skipped bytes are.1)

all_text : (bytes : List ℕ) → AllByRecursion (λ x. ((eqb x 48 || eqb x 49) || is_skipped x) ≡ true) bytes → IsTraceText bytes
all_text [] are = tt
all_text (x ∷ bytes) are = (by (eqb x 48) (eqb x 49) (is_skipped x) are.0, all_text bytes are.1)
  where
    by : (a b c : Bool) → ((a || b) || c) ≡ true → (a || b || c) ≡ true
    by true b c is = refl
    by false b c is = is

-- the masks of each byte that is skipped make that of all
pub skipped_places : (bytes : List ℕ) → mask_l (map (λ x. eqb x 32) bytes) + mask_l (map (λ x. eqb x 10) bytes) + mask_l (map (λ x. eqb x 13) bytes) ≡ mask_l (map is_skipped bytes)
skipped_places bytes =
    ap (λ m. m + mask_l (map (λ x. eqb x 13) bytes)) (mask-or (λ x. eqb x 32) (λ x. eqb x 10) (λ x. other_digits 32 10 x (λ e. omega (arith, e))) bytes)
    ∙ mask-or (λ x. eqb x 32 || eqb x 10) (λ x. eqb x 13) apart bytes
  where
    apart : (x : ℕ) → (eqb x 32 || eqb x 10) ≡ true → eqb x 13 ≡ true → ⊥
    apart x others is13 = false≢true (subst (λ y. (eqb y 32 || eqb y 10) ≡ true) (eqb-true x 13 is13) others)

module _ (bytes : List ℕ) (size : length bytes ≡ 16) where
  wide : 2 ^ length bytes ≡ 65536
  wide = ap (λ n. 2 ^ n) size

  pub digits_by_mask : mask_l (map (λ x. eqb x 48 || eqb x 49) bytes) ≡ 65535 → AreDigits bytes
  digits_by_mask full = all_digits bytes (mask-all (λ x. eqb x 48 || eqb x 49) bytes (omega (arith, full, wide)))

  pub skipped_by_mask : mask_l (map is_skipped bytes) ≡ 65535 → AreSkipped bytes
  skipped_by_mask full = all_skipped bytes (mask-all is_skipped bytes (omega (arith, full, wide)))

  pub text_by_masks : mask_l (map (λ x. eqb x 48 || eqb x 49) bytes) + mask_l (map is_skipped bytes) ≡ 65535 → IsTraceText bytes
  text_by_masks full =
      all_text bytes (mask-all (λ x. (eqb x 48 || eqb x 49) || is_skipped x) bytes (omega (arith, full, wide, mask-or (λ x. eqb x 48 || eqb x 49) is_skipped apart bytes)))
    where
      -- a digit is not skipped
      apart : (x : ℕ) → (eqb x 48 || eqb x 49) ≡ true → is_skipped x ≡ true → ⊥
      apart x digit skipped = by_digit x (λ y. is_skipped y ≡ true → ⊥) (λ none. false≢true none) (λ none. false≢true none) digit skipped

-- how many skipped bytes precede the first other one
abbrev skipped_len : List ℕ → ℕ
skipped_len bytes = prefix_len (λ x. not (not (is_skipped x))) bytes

skipped_front : (bytes : List ℕ) → AreSkipped (take (skipped_len bytes) bytes)
skipped_front [] = (tt, refl)
skipped_front (x ∷ bytes) = by (is_skipped x) refl (skipped_front bytes)
  where
    n : ℕ
    n = skipped_len bytes

    next : 1 + n ≡ suc n
    next = omega arith

    by : (b : Bool) → is_skipped x ≡ b → AreSkipped (take n bytes) → AreSkipped (take (cond (not (not b)) (1 + n) 0) (x ∷ bytes))
    by true is front = subst (λ k. AreSkipped (take k (x ∷ bytes))) (sym next) (AreSkipped-append (x ∷ []) (take n bytes) (skipped_byte x is) front)
    by false is front = (tt, refl)

-- by the mask of the others among n bytes
module _ (width : ℕ) (narrow : width ≤ 64) (bytes block : List ℕ) (whole : width ≤ length bytes) (is_block : block ≡ take width bytes) (mask : ℕ) (is : mask ≡ mask_l (map (λ x. not (is_skipped x)) block)) where
  block_size : length block ≡ width
  block_size = ap length is_block ∙ length-take-le width bytes whole

  front_of_bytes : (n : ℕ) → n ≡ skipped_len block → n ≤ width → AreSkipped (take n bytes)
  front_of_bytes n same within =
      subst AreSkipped (ap (take n) is_block ∙ take-take n width bytes within) (subst (λ k. AreSkipped (take k block)) (sym same) (skipped_front block))

  pub skipped_through : mask ≡ 0 → AreSkipped (take width bytes)
  skipped_through none =
      front_of_bytes width (sym (leading_from_mask_l (λ x. not (is_skipped x)) block (sym is ∙ none) ∙ block_size)) (omega arith)

  skipped_ends : 0 < mask → count_trailing_zeros 64 mask ≡ skipped_len block
  skipped_ends some = ap (count_trailing_zeros 64) is ∙ trailing_mask_l (λ x. not (is_skipped x)) 64 block (omega (arith, block_size, narrow)) (omega (arith, is, some))

  pub skipped_within : 0 < mask → count_trailing_zeros 64 mask ≤ width
  skipped_within some = omega (arith, skipped_ends some, block_size, prefix_len-le-length (λ x. not (not (is_skipped x))) block)

  pub skipped_before : 0 < mask → AreSkipped (take (count_trailing_zeros 64 mask) bytes)
  skipped_before some = front_of_bytes (count_trailing_zeros 64 mask) (skipped_ends some) (skipped_within some)
