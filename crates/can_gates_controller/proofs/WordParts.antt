-- The numbers of parts of words, and of words whose places agree.
use Rattle.std.proofs.Common.{◌≡◌, ℕ, suc, zero, ◌+◌, ◌*◌, ◌^◌, ◌<◌, ◌≤◌, Bool, true, false, cond, List, [], ◌∷◌, length, take, drop, get_or, refl, sym, ◌∙◌, ap, arith, pow-suc}
use Rattle.std.proofs.lemmas.List.{get_or-drop, take_all}
use Rattle.can_gates.specs.declared.literal.Literal.{Literal}
use Rattle.can_gates.specs.Circuit.{value, never}
use Rattle.can_gates.specs.Words.{number, bit}
use Rattle.can_gates.proofs.WordNumbers.{number-take}
use Rattle.can_gates_controller.specs.Fields.{bytes_in}

twice : (b x a p y : ℕ) → x ≡ a + p * y → b + 2 * x ≡ (b + 2 * a) + (p * 2) * y
twice b x a p y e = rw e (grind arith)

-- a word is its first n places and the others
pub number-split : (v : ℕ → Bool) (n : ℕ) (word : List Literal) → number v word ≡ number v (take n word) + 2 ^ n * number v (drop n word)
number-split v zero word = omega arith
number-split v (suc n) [] = omega arith
number-split v (suc n) (l ∷ word) = twice (bit (value v l)) (number v word) (number v (take n word)) (2 ^ n) (number v (drop n word)) (number-split v n word) ∙ rw (pow-suc 2 n) refl

pub number_same : (v : ℕ → Bool) → v 0 ≡ false → (n : ℕ) (a b : List Literal) → ((p : ℕ) → p < n → value v (get_or a p never) ≡ value v (get_or b p never)) → number v (take n a) ≡ number v (take n b)
number_same v zero_is zero a b same = refl
number_same v zero_is (suc n) a b same =
    rw (number-take v zero_is a n, number-take v zero_is b n, same n (omega arith), number_same v zero_is n a b (λ p h. same p (omega (arith, h)))) refl

pub number_none : (v : ℕ → Bool) (word : List Literal) → ((p : ℕ) → value v (get_or word p never) ≡ false) → number v word ≡ 0
number_none v [] none = refl
number_none v (l ∷ word) none = rw (none 0, number_none v word (λ p. none (suc p))) refl

pub bytes_same : (v : ℕ → Bool) → v 0 ≡ false → (n : ℕ) (a b : List Literal) → ((p : ℕ) → p < 8 * n → value v (get_or a p never) ≡ value v (get_or b p never)) → bytes_in v n a ≡ bytes_in v n b
bytes_same v zero_is zero a b same = refl
bytes_same v zero_is (suc n) a b same =
    let rest = bytes_same v zero_is n (drop 8 a) (drop 8 b) (λ p h. ap (value v) (get_or-drop 8 a p never) ∙ same (8 + p) (omega (arith, h)) ∙ sym (ap (value v) (get_or-drop 8 b p never))) in
    ap (λ t. t ∷ bytes_in v n (drop 8 a)) (number_same v zero_is 8 a b (λ p h. same p (omega (arith, h)))) ∙ ap (λ t. number v (take 8 b) ∷ t) rest

-- the number of one of two words, if each bit is chosen
pub number_chosen : (v : ℕ → Bool) → v 0 ≡ false → (t : Bool) (n : ℕ) (made a b : List Literal) → length made ≤ n → length a ≤ n → length b ≤ n → ((p : ℕ) → p < n → value v (get_or made p never) ≡ cond t (value v (get_or a p never)) (value v (get_or b p never))) → number v made ≡ cond t (number v a) (number v b)
number_chosen v zero_is true n made a b long long_a long_b is = rw (take_all n made long, take_all n a long_a) at (number_same v zero_is n made a is)
number_chosen v zero_is false n made a b long long_a long_b is = rw (take_all n made long, take_all n b long_b) at (number_same v zero_is n made b is)
