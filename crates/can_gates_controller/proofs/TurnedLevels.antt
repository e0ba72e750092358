-- Words have their lowest place first, levels the highest: one in the order of the other is its number.
use Rattle.std.proofs.Common.{◌≡◌, ℕ, suc, zero, ◌+◌, ◌-◌, ◌*◌, ◌/◌, ◌%◌, ◌^◌, ◌<◌, ◌≤◌, ◌⊎◌, inl, inr, Bool, true, false, List, [], ◌∷◌, ◌++◌, map, length, take, drop, get_or, refl, sym, ◌∙◌, ap, arith, length-append}
use Rattle.std.specs.List.{flat_map}
use Rattle.std.proofs.lemmas.Nat.{shr_high}
use Rattle.std.proofs.lemmas.Bool.{cases_lt}
use Rattle.std.proofs.lemmas.List.{drop-map, map-append, get_or-drop, get_or_append_left, get_or-append_right}
use Rattle.can_frame.specs.declared.level.Level.{Level}
use Rattle.can_frame.specs.declared.level.Level.TheVariants.{Dominant}
use Rattle.can_frame.specs.Levels.{is_recessive, level_from, level_of, bits_of, number_from}
use Rattle.can_frame.proofs.LevelLemmas.{bits_of-low, number_from-append}
use Rattle.can_wire.specs.Layout.{level_at, filled, bytes_from}
use Rattle.can_gates.specs.declared.literal.Literal.{Literal}
use Rattle.can_gates.specs.Circuit.{value, never}
use Rattle.can_gates.specs.Words.{number, bit}
use Rattle.can_gates.proofs.Constants.{value-never}
use Rattle.can_gates.proofs.WordNumbers.{number-take, number-take-lt}
use Rattle.can_gates_controller.specs.Fields.{bytes_in}
use Rattle.can_gates_controller.specs.Laying.{turned_word, turned_bytes}
use Rattle.can_frame.proofs.LevelTests.{level_told}

abbrev pub literal_level : (ℕ → Bool) → Literal → Level
literal_level v l = level_from (value v l)

-- the levels of literals
abbrev pub levels_in : (ℕ → Bool) → List Literal → List Level
levels_in v items = map (literal_level v) items

pub level_in : (v : ℕ → Bool) → v 0 ≡ false → (items : List Literal) (p : ℕ) → level_at (levels_in v items) p ≡ level_from (value v (get_or items p never))
level_in v zero_is [] p = ap level_from (sym (value-never v zero_is))
level_in v zero_is (l ∷ items) zero = refl
level_in v zero_is (l ∷ items) (suc p) = level_in v zero_is items p

pub length-turned : (n : ℕ) (items : List Literal) → length (turned_word n items) ≡ n
unfolding turned_word
length-turned zero items = refl
length-turned (suc n) items = ap suc (length-turned n items)

-- From a word to levels.

sum_turned : (p n : ℕ) (b : Bool) → n + p * bit b ≡ bit b * p + n
sum_turned p n true = omega arith
sum_turned p n false = omega arith

level_of_bit : (b : Bool) → level_of (bit b % 2) ≡ level_from b
level_of_bit true = refl
level_of_bit false = refl

-- the first n places of a word, the highest of them first, are the levels of their number
pub levels_turned : (v : ℕ → Bool) → v 0 ≡ false → (n : ℕ) (word : List Literal) → levels_in v (turned_word n word) ≡ bits_of n (number v (take n word))
unfolding bits_of turned_word
levels_turned v zero_is zero word = refl
levels_turned v zero_is (suc n) word =
    let b = value v (get_or word n never) in
    let low = number v (take n word) in
    let all = number v (take (suc n) word) in
    let sum : all ≡ bit b * 2 ^ n + low = number-take v zero_is word n ∙ sum_turned (2 ^ n) low b in
    let top : all / 2 ^ n ≡ bit b = ap (λ t. t / 2 ^ n) sum ∙ shr_high (bit b) n low (number-take-lt v word n) in
    let rest : bits_of n all ≡ bits_of n low = ap (bits_of n) sum ∙ bits_of-low n (bit b) low in
    ap (λ t. level_from b ∷ t) (levels_turned v zero_is n word ∙ sym rest) ∙ ap (λ t. t ∷ bits_of n all) (sym (ap (λ t. level_of (t % 2)) top ∙ level_of_bit b))

pub levels_turned_bytes : (v : ℕ → Bool) → v 0 ≡ false → (n : ℕ) (word : List Literal) → levels_in v (turned_bytes n word) ≡ flat_map (bits_of 8) (bytes_in v n word)
unfolding turned_bytes
levels_turned_bytes v zero_is zero word = refl
levels_turned_bytes v zero_is (suc n) word =
    map-append (literal_level v) (turned_word 8 word) (turned_bytes n (drop 8 word))
    ∙ ap (λ t. t ++ levels_in v (turned_bytes n (drop 8 word))) (levels_turned v zero_is 8 word)
    ∙ ap (λ t. bits_of 8 (number v (take 8 word)) ++ t) (levels_turned_bytes v zero_is n (drop 8 word))

-- From levels to a word.

filled_more : (n : ℕ) (u : List Level) → filled (suc n) u ≡ filled n u ++ level_at u n ∷ []
filled_more zero [] = refl
filled_more zero (x ∷ u) = refl
filled_more (suc n) [] = ap (λ t. Dominant ∷ t) (filled_more n [])
filled_more (suc n) (x ∷ u) = ap (λ t. x ∷ t) (filled_more n u)

number_more : (m : ℕ) (b : Bool) → number_from m (level_from b ∷ []) ≡ bit b + 2 * m
number_more m true = omega arith
number_more m false = omega arith

-- the first n levels, the last of them first, are the word of their number
pub number_turned : (v : ℕ → Bool) → v 0 ≡ false → (n : ℕ) (items : List Literal) → number v (turned_word n items) ≡ number_from 0 (filled n (levels_in v items))
unfolding turned_word
number_turned v zero_is zero items = refl
number_turned v zero_is (suc n) items =
    let u = levels_in v items in
    let b = value v (get_or items n never) in
    let n_first = number_from 0 (filled n u) in
    sym (
    ap (number_from 0) (filled_more n u)
    ∙ number_from-append 0 (filled n u) (level_at u n ∷ [])
    ∙ ap (λ x. number_from n_first (x ∷ [])) (level_in v zero_is items n)
    ∙ number_more n_first b
    ∙ ap (λ t. bit b + 2 * t) (sym (number_turned v zero_is n items))
    )

pub bytes_turned : (v : ℕ → Bool) → v 0 ≡ false → (n m : ℕ) (items : List Literal) → n ≤ m → bytes_in v n (turned_bytes m items) ≡ bytes_from n (levels_in v items)
unfolding turned_word turned_bytes
bytes_turned v zero_is zero m items h = refl
bytes_turned v zero_is (suc n) zero items h = absurd (omega (arith, h))
bytes_turned v zero_is (suc n) (suc m) items h =
    let u = levels_in v items in
    let rest = bytes_turned v zero_is n m (drop 8 items) (omega (arith, h)) ∙ ap (bytes_from n) (sym (drop-map (literal_level v) 8 items)) in
    ap (λ t. t ∷ bytes_in v n (turned_bytes m (drop 8 items))) (number_turned v zero_is 8 items) ∙ ap (λ t. number_from 0 (filled 8 u) ∷ t) rest

-- Levels whose places agree.

pub filled_same : (n : ℕ) (a b : List Level) → ((p : ℕ) → p < n → level_at a p ≡ level_at b p) → filled n a ≡ filled n b
filled_same zero a b same = refl
filled_same (suc n) a b same =
    filled_more n a
    ∙ ap (λ t. t ++ level_at a n ∷ []) (filled_same n a b (λ p h. same p (omega (arith, h))))
    ∙ ap (λ x. filled n b ++ x ∷ []) (same n (omega arith))
    ∙ sym (filled_more n b)

pub bytes_from_same : (n : ℕ) (a b : List Level) → ((p : ℕ) → p < 8 * n → level_at a p ≡ level_at b p) → bytes_from n a ≡ bytes_from n b
bytes_from_same zero a b same = refl
bytes_from_same (suc n) a b same =
    let rest = bytes_from_same n (drop 8 a) (drop 8 b) (λ p h. get_or-drop 8 a p Dominant ∙ same (8 + p) (omega (arith, h)) ∙ sym (get_or-drop 8 b p Dominant)) in
    ap (λ t. number_from 0 t ∷ bytes_from n (drop 8 a)) (filled_same 8 a b (λ p h. same p (omega (arith, h)))) ∙ ap (λ t. number_from 0 (filled 8 b) ∷ t) rest

-- literals from a place on, whose values are levels from that place on
pub levels_behind : (v : ℕ → Bool) → v 0 ≡ false → (items : List Literal) (u : List Level) (s p : ℕ) → value v (get_or items (s + p) never) ≡ is_recessive (level_at u (s + p)) → level_at (levels_in v (drop s items)) p ≡ level_at (drop s u) p
levels_behind v zero_is items u s p is =
    level_in v zero_is (drop s items) p ∙ ap (literal_level v) (get_or-drop s items p never) ∙ ap level_from is ∙ level_told (level_at u (s + p)) ∙ sym (get_or-drop s u p Dominant)

-- The places of literals in the other order.

pub turned_at : (n : ℕ) (items : List Literal) (p : ℕ) → p < n → get_or (turned_word n items) p never ≡ get_or items (n - 1 - p) never
unfolding turned_word
turned_at zero items p h = absurd (omega (arith, h))
turned_at (suc n) items zero h = let e : n ≡ suc n - 1 - 0 = omega arith in ap (λ q. get_or items q never) e
turned_at (suc n) items (suc p) h = let e : n - 1 - p ≡ suc n - 1 - suc p = omega arith in turned_at n items p (omega (arith, h)) ∙ ap (λ q. get_or items q never) e

pub length-turned_bytes : (n : ℕ) (items : List Literal) → length (turned_bytes n items) ≡ 8 * n
unfolding turned_bytes
length-turned_bytes zero items = refl
length-turned_bytes (suc n) items = omega (arith, length-append (turned_word 8 items) (turned_bytes n (drop 8 items)), length-turned 8 items, length-turned_bytes n (drop 8 items))

pub turned_bytes_at : (n : ℕ) (items : List Literal) (p : ℕ) → p < 8 * n → get_or (turned_bytes n items) p never ≡ get_or items (p / 8 * 8 + (7 - p % 8)) never
unfolding turned_bytes
turned_bytes_at zero items p h = absurd (omega (arith, h))
turned_bytes_at (suc n) items p h = by (cases_lt p 8) (λ l. turned_bytes_at n (drop 8 items) (p - 8) (omega (arith, l, h)))
  where
    by : (p < 8) ⊎ (8 ≤ p) → (8 ≤ p → get_or (turned_bytes n (drop 8 items)) (p - 8) never ≡ get_or (drop 8 items) ((p - 8) / 8 * 8 + (7 - (p - 8) % 8)) never) → get_or (turned_word 8 items ++ turned_bytes n (drop 8 items)) p never ≡ get_or items (p / 8 * 8 + (7 - p % 8)) never
    by (inl l) rest =
        let e : 8 - 1 - p ≡ p / 8 * 8 + (7 - p % 8) = omega (arith, l) in
        get_or_append_left (turned_word 8 items) (turned_bytes n (drop 8 items)) never p (omega (arith, l, length-turned 8 items)) ∙ turned_at 8 items p l ∙ ap (λ q. get_or items q never) e
    by (inr l) rest =
        let q = p - 8 in
        let e : 8 + (q / 8 * 8 + (7 - q % 8)) ≡ p / 8 * 8 + (7 - p % 8) = omega (arith, l) in
        get_or-append_right (turned_word 8 items) (turned_bytes n (drop 8 items)) 8 p never (length-turned 8 items) l
        ∙ rest l
        ∙ get_or-drop 8 items (q / 8 * 8 + (7 - q % 8)) never
        ∙ ap (λ r. get_or items r never) e
