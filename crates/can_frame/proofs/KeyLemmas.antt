-- The bits of keys are in the order of the fields that they keep.
use Rattle.std.proofs.Common.{◌≡◌, nat_eq, ℕ, ◌/◌, ◌%◌, ◌^◌, ◌<◌, ◌≤◌, List, [], ◌++◌, length, refl, sym, ◌∙◌, ap, arith, inl, inr}
use Rattle.std.proofs.lemmas.List.{append-nil}
use Rattle.std.proofs.Math.Nat.{eq-or-lt_of_le}
use Rattle.std.proofs.lemmas.Cmp.{ranked, by_ranked}
use Rattle.std.specs.Bool.{Decides}
use Rattle.std.proofs.lemmas.Bool.{eqb-true}
use Rattle.std.specs.Cmp.{unsigned_ties}
use Rattle.std.specs.Ordering.{nat_cmp, eq_by_cmp, is_eq}
use Rattle.can_frame.specs.declared.level.Level.{Level}
use Rattle.can_frame.specs.Levels.{bits_of}
use Rattle.can_frame.specs.Arbitration.{Before, field_cmp}
use Rattle.can_frame.specs.KeyBits.{kept_field, IsKept}
use Rattle.can_frame.specs.Kept.{kept_field-short, kept_field-long}
use Rattle.can_frame.proofs.LevelLemmas.{bit_cases, length-bits_of, bits_of-append, number_from-whole}
use Rattle.can_frame.proofs.BeforeLemmas.{Before-append, Before-number_from, field_cmp-before, field_cmp-same, field_cmp-after, field_cmp-tells, Ranked, Tells}

-- a key's bits, and the field that they keep
pub record Keeps (bits : ℕ) (field : List Level) : Type 0 where
  pub kept : IsKept bits
  pub is : kept_field bits ≡ field

-- the first 13 levels of a field, and then those that an extended one has more
kept_field-front : (bits : ℕ) → (rest : List Level) × (kept_field bits ≡ bits_of 13 (bits / 2 ^ 19) ++ rest)
kept_field-front bits = elim (bit_cases bits 19) [
  | inl short ↦ ([], kept_field-short bits short ∙ sym (append-nil (bits_of 13 (bits / 2 ^ 19))))
  | inr long ↦ (bits_of 19 bits, kept_field-long bits long ∙ bits_of-append 13 19 bits)
]

bits_of-Before : (k m n : ℕ) → n < 2 ^ k → m < n → Before (bits_of k m) (bits_of k n)
bits_of-Before k m n within less =
    let size : length (bits_of k m) ≡ length (bits_of k n) = length-bits_of k m ∙ sym (length-bits_of k n) in
    let lower : m < 2 ^ k = omega arith in
    Before-number_from (bits_of k m) (bits_of k n) size (omega (arith, number_from-whole k m lower, number_from-whole k n within))

-- the first 13 levels decide, or they are one, and then both fields are extended
kept_before : (m n : ℕ) → IsKept m → IsKept n → m < n → Before (kept_field m) (kept_field n)
kept_before m n kept_m kept_n less =
    let up : m / 2 ^ 19 ≤ n / 2 ^ 19 = omega arith in
    elim (eq-or-lt_of_le up) [
      | inr below ↦
          let first = bits_of-Before 13 (m / 2 ^ 19) (n / 2 ^ 19) (omega (arith, kept_n.range)) below in
          let front_m = kept_field-front m in
          let front_n = kept_field-front n in
          rw (front_m.1, front_n.1) (Before-append (bits_of 13 (m / 2 ^ 19)) (bits_of 13 (n / 2 ^ 19)) front_m.0 front_n.0 first)
      | inl same ↦
          let ide = ap (λ t. t % 2) (sym same) in
          elim (bit_cases m 19) [
            | inl short ↦ absurd (omega (arith, kept_m.zeros short, kept_n.zeros (ide ∙ short)))
            | inr long ↦ rw (kept_field-long m long, kept_field-long n (ide ∙ long)) (bits_of-Before 32 m n kept_n.range less)
          ]
    ]

Keeps-before : {m n : ℕ} {a b : List Level} → Keeps m a → Keeps n b → m < n → Before a b
Keeps-before {m} {n} x y less = rw (← x.is, ← y.is) (kept_before m n x.kept y.kept less)

-- what the comparison of two keys' bits returns
module _ {m n : ℕ} {a b : List Level} (x : Keeps m a) (y : Keeps n b) where
  Keeps-same : m ≡ n → a ≡ b
  Keeps-same e = sym x.is ∙ ap kept_field e ∙ y.is

  Keeps-ranked : Ranked a b
  Keeps-ranked =
      by_ranked (m < n) (m ≡ n) (n < m) (nat_cmp m n) (ranked m n (nat_cmp m n) refl)
      (λ is less. inl (Keeps-before x y less))
      (λ is e. inr (inl (Keeps-same e)))
      (λ is more. inr (inr (Keeps-before y x more)))

  pub nat_cmp-kept : nat_cmp m n ≡ field_cmp a b
  nat_cmp-kept =
      by_ranked (m < n) (m ≡ n) (n < m) (nat_cmp m n) (ranked m n (nat_cmp m n) refl)
      (λ is less. is ∙ sym (field_cmp-before a b (Keeps-before x y less)))
      (λ is e. is ∙ sym (field_cmp-same a b (Keeps-same e)))
      (λ is more. is ∙ sym (field_cmp-after a b (Keeps-before y x more)))

  pub nat_cmp-tells : Tells a b (nat_cmp m n)
  nat_cmp-tells = rw nat_cmp-kept (field_cmp-tells a b Keeps-ranked)

  pub nat_eq-kept : nat_eq m n ≡ eq_by_cmp field_cmp a b
  nat_eq-kept = unsigned_ties m n ∙ ap is_eq nat_cmp-kept

  pub nat_eq-Decides : Decides (nat_eq m n) (a ≡ b)
  nat_eq-Decides = (λ e. Keeps-same (eqb-true m n e), λ e. nat_eq-kept ∙ ap is_eq (field_cmp-same a b e))
