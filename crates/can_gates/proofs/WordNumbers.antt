-- The numbers of words, place by place. Past its end a word has the literal that is never true.
use Rattle.std.proofs.Common.{◌≡◌, ℕ, zero, suc, ◌+◌, ◌*◌, ◌^◌, ◌<◌, Bool, true, false, List, [], ◌∷◌, ◌++◌, length, take, get_or, refl, ◌∙◌, arith, pow-suc}
use Rattle.std.proofs.lemmas.Nat.{pow_pos}
use Rattle.can_gates.specs.declared.literal.Literal.{Literal}
use Rattle.can_gates.specs.Circuit.{value, never}
use Rattle.can_gates.specs.Words.{number, bit}
use Rattle.can_gates.proofs.Constants.{value-never}

twice : (b n x p y : ℕ) → x ≡ n + p * y → b + 2 * x ≡ (b + 2 * n) + (p * 2) * y
twice b n x p y e = rw e (grind arith)

below : (n : ℕ) (b : Bool) (k : ℕ) → n < 2 ^ k → bit b + 2 * n < 2 ^ suc k
below n false k h = rw (pow-suc 2 k) (omega (arith, h))
below n true k h = rw (pow-suc 2 k) (omega (arith, h))

-- a place more at the top of a word
pub number-push : (v : ℕ → Bool) (word : List Literal) (l : Literal) → number v (word ++ l ∷ []) ≡ number v word + 2 ^ length word * bit (value v l)
number-push v [] l = omega arith
number-push v (w ∷ word) l = twice _ _ _ (2 ^ length word) (bit (value v l)) (number-push v word l) ∙ rw (pow-suc 2 (length word)) refl

-- a place more of a word, or past its end
pub number-take : (v : ℕ → Bool) → v 0 ≡ false → (word : List Literal) (i : ℕ) → number v (take (suc i) word) ≡ number v (take i word) + 2 ^ i * bit (value v (get_or word i never))
number-take v never_true [] zero = rw (value-never v never_true) (omega arith)
number-take v never_true [] (suc i) = rw (value-never v never_true) (omega arith)
number-take v never_true (l ∷ word) zero = omega arith
number-take v never_true (l ∷ word) (suc i) = twice _ _ _ (2 ^ i) (bit (value v (get_or word i never))) (number-take v never_true word i) ∙ rw (pow-suc 2 i) refl

pub number-lt : (v : ℕ → Bool) (word : List Literal) → number v word < 2 ^ length word
number-lt v [] = omega arith
number-lt v (l ∷ word) = below _ (value v l) (length word) (number-lt v word)

pub number-take-lt : (v : ℕ → Bool) (word : List Literal) (i : ℕ) → number v (take i word) < 2 ^ i
number-take-lt v [] zero = omega arith
number-take-lt v [] (suc i) = pow_pos (suc i)
number-take-lt v (l ∷ word) zero = omega arith
number-take-lt v (l ∷ word) (suc i) = below _ (value v l) i (number-take-lt v word i)
