-- The error counters by the places of words.
use Rattle.std.proofs.Common.{◌≡◌, ℕ, suc, ◌+◌, ◌-◌, ◌*◌, ◌^◌, ◌<◌, min, Bool, true, false, not, ◌&&◌, ◌||◌, cond, List, [], ◌∷◌, length, take, get_or, refl, sym, ◌∙◌, ap, arith, pow-suc}
use Rattle.std.specs.Prelude.{nat_le}
use Rattle.std.proofs.lemmas.List.{take_all}
use Rattle.can_fault.specs.Counters.{rec_after_reception}
use Rattle.can_gates.specs.declared.literal.Literal.{Literal}
use Rattle.can_gates.specs.Circuit.{value, never}
use Rattle.can_gates.specs.Words.{number, bit}
use Rattle.can_gates.proofs.Constants.{value-never}
use Rattle.can_gates.proofs.WordNumbers.{number-take, number-take-lt}
use Rattle.can_gates_mac.specs.Counting.{tec_after, rec_after}
use Rattle.can_gates_mac.proofs.NibbleBits.{bits}

-- words that counters are raised and lowered by

pub by_8 : (v : ℕ → Bool) → v 0 ≡ false → (l : Literal) → number v (never ∷ never ∷ never ∷ l ∷ []) ≡ 8 * bit (value v l)
by_8 v zero_is l = rw (value-never v zero_is) (omega arith)

pub by_1_or_8 : (v : ℕ → Bool) → v 0 ≡ false → (k l : Literal) → number v (k ∷ never ∷ never ∷ l ∷ []) ≡ bit (value v k) + 8 * bit (value v l)
by_1_or_8 v zero_is k l = rw (value-never v zero_is) (omega arith)

pub tec_bits : (a b c d : Bool) (n t : ℕ) → n ≡ bits a b c d → n < 6 → t < 256 → min (t + 8 * bit (a && b)) 511 - (bit (c && not a) + 2 * 0) ≡ tec_after n t
tec_bits a b c true n t e h small = absurd (omega (arith, e, h))
tec_bits a true true false n t e h small = absurd (omega (arith, e, h))
tec_bits false false false false n t e h small = rw e (omega (arith, small))
tec_bits true false false false n t e h small = rw e (omega (arith, small))
tec_bits false true false false n t e h small = rw e (omega (arith, small))
tec_bits true true false false n t e h small = rw e (omega (arith, small))
tec_bits false false true false n t e h small = rw e (omega (arith, small))
tec_bits true false true false n t e h small = rw e (omega (arith, small))

pub rec_bits : (a b c d : Bool) (n t : ℕ) → n ≡ bits a b c d → n < 6 → t < 256 → cond (c && a) (rec_after_reception t) (min (t + (bit ((a && not b) && not c) + 8 * bit (b && not a))) 255) ≡ rec_after n t
rec_bits a b c true n t e h small = absurd (omega (arith, e, h))
rec_bits a true true false n t e h small = absurd (omega (arith, e, h))
rec_bits false false false false n t e h small = rw e (omega (arith, small))
rec_bits true false false false n t e h small = rw e refl
rec_bits false true false false n t e h small = rw e refl
rec_bits true true false false n t e h small = rw e (omega (arith, small))
rec_bits false false true false n t e h small = rw e (omega (arith, small))
rec_bits true false true false n t e h small = rw e refl

-- the highest places of a word

top_bit : (m p : ℕ) (b : Bool) → m < p → nat_le p (m + p * bit b) ≡ b
top_bit m p true h = grind (arith, h)
top_bit m p false h = grind (arith, h)

pub top_is : (v : ℕ → Bool) → v 0 ≡ false → (word : List Literal) (k : ℕ) → length word ≡ suc k → nat_le (2 ^ k) (number v word) ≡ value v (get_or word k never)
top_is v zero_is word k long =
    let whole : number v word ≡ number v (take k word) + 2 ^ k * bit (value v (get_or word k never)) = ap (number v) (sym (take_all (suc k) word (omega (arith, long)))) ∙ number-take v zero_is word k in
    rw whole (top_bit (number v (take k word)) (2 ^ k) (value v (get_or word k never)) (number-take-lt v word k))

two_bits : (m p : ℕ) (a b : Bool) → m < p → nat_le p ((m + p * bit a) + (p * 2) * bit b) ≡ (a || b)
two_bits m p true true h = grind (arith, h)
two_bits m p false true h = grind (arith, h)
two_bits m p true false h = grind (arith, h)
two_bits m p false false h = grind (arith, h)

pub top_two : (v : ℕ → Bool) → v 0 ≡ false → (word : List Literal) (k : ℕ) → length word ≡ suc (suc k) → nat_le (2 ^ k) (number v word) ≡ (value v (get_or word k never) || value v (get_or word (suc k) never))
top_two v zero_is word k long =
    let whole : number v word ≡ number v (take (suc k) word) + 2 ^ suc k * bit (value v (get_or word (suc k) never)) = ap (number v) (sym (take_all (suc (suc k)) word (omega (arith, long)))) ∙ number-take v zero_is word (suc k) in
    rw (whole, number-take v zero_is word k, pow-suc 2 k) (two_bits (number v (take k word)) (2 ^ k) (value v (get_or word k never)) (value v (get_or word (suc k) never)) (number-take-lt v word k))
