-- Words in order, one place more.
use Rattle.std.proofs.Common.{◌≡◌, ℕ, suc, ◌+◌, ◌*◌, ◌^◌, ◌<◌, ◌⊎◌, inl, inr, Bool, true, false, not, ◌&&◌, cond, eqb, ltb, List, take, get_or, sym, ◌∙◌, arith}
use Rattle.std.proofs.lemmas.Bool.{cases_eq, eq-eqb, ne_eqb}
use Rattle.can_gates.specs.declared.literal.Literal.{Literal}
use Rattle.can_gates.specs.Circuit.{value, differ, never}
use Rattle.can_gates.specs.Words.{number, bit}
use Rattle.can_gates.proofs.WordNumbers.{number-take, number-take-lt}

-- the highest place decides

highest : (m n p : ℕ) (a b : Bool) → m < p → n < p → ltb (m + p * bit a) (n + p * bit b) ≡ cond (differ a b) b (ltb m n)
highest m n p false false h k = grind (arith, h, k)
highest m n p false true h k = grind (arith, h, k)
highest m n p true false h k = grind (arith, h, k)
highest m n p true true h k = grind (arith, h, k)

pub less_place : (v : ℕ → Bool) → v 0 ≡ false → (a b : List Literal) (left right differs old less : Literal) (i : ℕ) → left ≡ get_or a i never → right ≡ get_or b i never → value v differs ≡ differ (value v left) (value v right) → value v less ≡ cond (value v differs) (value v right) (value v old)
    → value v old ≡ ltb (number v (take i a)) (number v (take i b)) → value v less ≡ ltb (number v (take (suc i) a)) (number v (take (suc i) b))
less_place v zero_is a b left right differs old less i at_left at_right is_differs is so_far =
    rw (is, is_differs, so_far, at_left, at_right, number-take v zero_is a i, number-take v zero_is b i)
    (sym (highest (number v (take i a)) (number v (take i b)) (2 ^ i) (value v (get_or a i never)) (value v (get_or b i never)) (number-take-lt v a i) (number-take-lt v b i)))

-- two tests of equal numbers
same_test : (a b c d : ℕ) → (a ≡ b → c ≡ d) → (c ≡ d → a ≡ b) → eqb a b ≡ eqb c d
same_test a b c d there back = by (cases_eq a b)
  where
    by : (a ≡ b) ⊎ (a ≡ b → ⊥) → eqb a b ≡ eqb c d
    by (inl e) = eq-eqb a b e ∙ sym (eq-eqb c d (there e))
    by (inr h) = ne_eqb a b h ∙ sym (ne_eqb c d (λ e. h (back e)))

same_places : (m n p : ℕ) (a b : Bool) → m < p → n < p → eqb (m + p * bit a) (n + p * bit b) ≡ (not (differ a b) && eqb m n)
same_places m n p false false h k = same_test (m + p * 0) (n + p * 0) m n (λ e. omega (arith, e)) (λ e. omega (arith, e))
same_places m n p false true h k = ne_eqb (m + p * 0) (n + p * 1) (λ e. absurd (omega (arith, e, h, k)))
same_places m n p true false h k = ne_eqb (m + p * 1) (n + p * 0) (λ e. absurd (omega (arith, e, h, k)))
same_places m n p true true h k = same_test (m + p * 1) (n + p * 1) m n (λ e. omega (arith, e)) (λ e. omega (arith, e))

pub equal_place : (v : ℕ → Bool) → v 0 ≡ false → (a b : List Literal) (left right differs old equal : Literal) (i : ℕ) → left ≡ get_or a i never → right ≡ get_or b i never → value v differs ≡ differ (value v left) (value v right) → value v equal ≡ (not (value v differs) && value v old)
    → value v old ≡ eqb (number v (take i a)) (number v (take i b)) → value v equal ≡ eqb (number v (take (suc i) a)) (number v (take (suc i) b))
equal_place v zero_is a b left right differs old equal i at_left at_right is_differs is so_far =
    rw (is, is_differs, so_far, at_left, at_right, number-take v zero_is a i, number-take v zero_is b i)
    (sym (same_places (number v (take i a)) (number v (take i b)) (2 ^ i) (value v (get_or a i never)) (value v (get_or b i never)) (number-take-lt v a i) (number-take-lt v b i)))
