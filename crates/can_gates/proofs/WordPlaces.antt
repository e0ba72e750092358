-- One place more of what words are made of.
use Rattle.std.proofs.Common.{◌≡◌, ℕ, suc, ◌+◌, ◌-◌, ◌*◌, ◌/◌, ◌%◌, ◌^◌, ◌<◌, ◌≤◌, Bool, true, false, not, ◌||◌, cond, List, [], ◌∷◌, ◌++◌, length, take, set, get_or, add-one, refl, sym, ◌∙◌, ap, arith, pow-suc}
use Rattle.std.proofs.lemmas.Nat.{pow_pos, mod_low}
use Rattle.std.proofs.lemmas.Grind.{take-set_at}
use Rattle.std.proofs.lemmas.List.{length-take-le}
use Rattle.can_gates.specs.declared.literal.Literal.{Literal}
use Rattle.can_gates.specs.Circuit.{value, never}
use Rattle.can_gates.specs.Words.{number, bit}
use Rattle.can_gates.proofs.WordNumbers.{number-push, number-take, number-lt}

-- a word with one place written

pub set_place : (word : List Literal) (i : ℕ) (l : Literal) → i < length word → take (suc i) (set word i l) ≡ take i word ++ l ∷ []
set_place word i l within = take-set_at word i (suc i) l (sym (add-one i)) within

pub taken : (word : List Literal) (i : ℕ) → i < length word → length (take i word) ≡ i
taken word i within = length-take-le i word (omega (arith, within))

-- a constant: what is left of the number, divided

halves : (p n rest b of : ℕ) → n + p * rest ≡ of → b ≡ rest % 2 → (n + p * b) + (p * 2) * (rest / 2) ≡ of
halves p n rest b of e is =
    let parts : rest ≡ b + 2 * (rest / 2) = omega (arith, is) in
    let f : p * rest ≡ p * (b + 2 * (rest / 2)) = ap (λ t. p * t) parts in grind (arith, f, e)

pub constant_place : (v : ℕ → Bool) (word more : List Literal) (l : Literal) (i rest of : ℕ) → more ≡ word ++ l ∷ [] → length word ≡ i → bit (value v l) ≡ rest % 2 → number v word + 2 ^ i * rest ≡ of → number v more + 2 ^ suc i * (rest / 2) ≡ of
constant_place v word more l i rest of e long is so_far =
    rw (e, number-push v word l, long, pow-suc 2 i) (halves (2 ^ i) (number v word) rest (bit (value v l)) of so_far is)

pub constant_whole : (v : ℕ → Bool) (word : List Literal) (i rest of : ℕ) → length word ≡ i → number v word + 2 ^ i * rest ≡ of → number v word ≡ of % 2 ^ i
constant_whole v word i rest of long so_far =
    let small : number v word < 2 ^ i = rw long at (number-lt v word) in
    let parts : rest * 2 ^ i + number v word ≡ of = grind (arith, so_far) in sym (mod_low rest i (number v word) small) ∙ ap (λ n. n % 2 ^ i) parts

-- a complement

turned : (a m p : ℕ) (b : Bool) → a + m + 1 ≡ p → (a + p * bit (not b)) + (m + p * bit b) + 1 ≡ p * 2
turned a m p true e = omega (arith, e)
turned a m p false e = omega (arith, e)

pub complement_place : (v : ℕ → Bool) → v 0 ≡ false → (all more word : List Literal) (place level : Literal) (i : ℕ) → more ≡ all ++ level ∷ [] → length all ≡ i → place ≡ get_or word i never → value v level ≡ not (value v place) → number v all + number v (take i word) + 1 ≡ 2 ^ i → number v more + number v (take (suc i) word) + 1 ≡ 2 ^ suc i
complement_place v zero_is all more word place level i e long there is so_far =
    rw (e, number-push v all level, long, is, there, number-take v zero_is word i, pow-suc 2 i) (turned (number v all) (number v (take i word)) (2 ^ i) (value v (get_or word i never)) so_far)

-- a choice

chosen : (t : Bool) (p m n : ℕ) (a b : Bool) → cond t m n + p * bit (cond t a b) ≡ cond t (m + p * bit a) (n + p * bit b)
chosen true p m n a b = refl
chosen false p m n a b = refl

pub choose_place : (v : ℕ → Bool) → v 0 ≡ false → (all more a b : List Literal) (test left right level : Literal) (i : ℕ) → more ≡ all ++ level ∷ [] → length all ≡ i → left ≡ get_or a i never → right ≡ get_or b i never
    → value v level ≡ cond (value v test) (value v left) (value v right) → number v all ≡ cond (value v test) (number v (take i a)) (number v (take i b)) → number v more ≡ cond (value v test) (number v (take (suc i) a)) (number v (take (suc i) b))
choose_place v zero_is all more a b test left right level i e long at_left at_right is so_far =
    rw (e, number-push v all level, long, is, at_left, at_right, number-take v zero_is a i, number-take v zero_is b i, so_far) (chosen (value v test) (2 ^ i) (number v (take i a)) (number v (take i b)) (value v (get_or a i never)) (value v (get_or b i never)))

-- all ones, or the word

filled : (p n : ℕ) (a o : Bool) → 1 ≤ p → cond o (p - 1) n + p * bit (a || o) ≡ cond o (p * 2 - 1) (n + p * bit a)
filled p n false false h = omega arith
filled p n false true h = omega (arith, h)
filled p n true false h = omega arith
filled p n true true h = omega (arith, h)

pub or_place : (v : ℕ → Bool) → v 0 ≡ false → (all more word : List Literal) (level over : Literal) (i : ℕ) → more ≡ all ++ level ∷ [] → length all ≡ i → value v level ≡ (value v (get_or word i never) || value v over) → number v all ≡ cond (value v over) (2 ^ i - 1) (number v (take i word)) → number v more ≡ cond (value v over) (2 ^ suc i - 1) (number v (take (suc i) word))
or_place v zero_is all more word level over i e long is so_far =
    rw (e, number-push v all level, long, is, number-take v zero_is word i, so_far, pow-suc 2 i) (filled (2 ^ i) (number v (take i word)) (value v (get_or word i never)) (value v over) (omega (arith, pow_pos i)))

-- no place yet, of whichever word
pub zero_either : (test : Bool) → let zero : ℕ = 0 in zero ≡ cond test zero zero
zero_either true = refl
zero_either false = refl
