-- One place more of a sum, and sums that stop.
use Rattle.std.proofs.Common.{◌≡◌, ℕ, suc, ◌+◌, ◌-◌, ◌*◌, ◌^◌, ◌<◌, min, Bool, true, false, cond, List, [], ◌∷◌, ◌++◌, length, take, get_or, arith, pow-suc}
use Rattle.can_gates.specs.declared.literal.Literal.{Literal}
use Rattle.can_gates.specs.Circuit.{value, differ, never}
use Rattle.can_gates.specs.Words.{number, bit}
use Rattle.can_gates.proofs.WordNumbers.{number-push, number-take}

-- a full adder, at any weight
full_adder : (p n m q k : ℕ) (a b c : Bool) → n + p * bit c ≡ m + q + k → (n + p * bit (differ (differ a b) c)) + (p * 2) * bit (cond (differ a b) c a) ≡ (m + p * bit a) + (q + p * bit b) + k
full_adder p n m q k false false false e = omega (arith, e)
full_adder p n m q k false false true e = omega (arith, e)
full_adder p n m q k false true false e = omega (arith, e)
full_adder p n m q k false true true e = omega (arith, e)
full_adder p n m q k true false false e = omega (arith, e)
full_adder p n m q k true false true e = omega (arith, e)
full_adder p n m q k true true false e = omega (arith, e)
full_adder p n m q k true true true e = omega (arith, e)

pub sum_place : (v : ℕ → Bool) → v 0 ≡ false → (a b sum more : List Literal) (left right differs level old carry : Literal) (i k : ℕ) → more ≡ sum ++ level ∷ [] → length sum ≡ i → left ≡ get_or a i never → right ≡ get_or b i never
    → value v differs ≡ differ (value v left) (value v right) → value v level ≡ differ (value v differs) (value v old) → value v carry ≡ cond (value v differs) (value v old) (value v left)
    → number v sum + 2 ^ i * bit (value v old) ≡ number v (take i a) + number v (take i b) + k → number v more + 2 ^ suc i * bit (value v carry) ≡ number v (take (suc i) a) + number v (take (suc i) b) + k
sum_place v zero_is a b sum more left right differs level old carry i k e long at_left at_right is_differs is_level is_carry so_far =
    rw (e, number-push v sum level, long, pow-suc 2 i, is_carry, is_level, is_differs, at_left, at_right, number-take v zero_is a i, number-take v zero_is b i)
    (full_adder (2 ^ i) (number v sum) (number v (take i a)) (number v (take i b)) k (value v (get_or a i never)) (value v (get_or b i never)) (value v old) so_far)

-- a sum that stops at all ones: s places and a carry are w + z
pub stopped : (s w z p : ℕ) (carry : Bool) → s + p * bit carry ≡ w + z → s < p → cond carry (p - 1) s ≡ min (w + z) (p - 1)
stopped s w z p false e h = omega (arith, e, h)
stopped s w z p true e h = omega (arith, e, h)

-- a difference, by a sum of complements
pub lowered_by : (w b t u n p : ℕ) → t + w + 1 ≡ p → u ≡ min (t + b) (p - 1) → n + u + 1 ≡ p → n ≡ w - b
lowered_by w b t u n p e f g = omega (arith, e, f, g)
