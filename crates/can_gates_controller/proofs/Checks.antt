-- The CRC register, bit by bit: one more level, whether the CRC sequence is right, and what a transmitter sends of it.
use Rattle.std.proofs.Common.{◌≡◌, ℕ, zero, suc, ◌+◌, ◌-◌, ◌<◌, ◌≤◌, ◌⊎◌, inl, inr, Bool, true, false, not, ◌&&◌, ◌||◌, cond, List, [], ◌∷◌, ◌++◌, length, take, drop, get_or, ◌^◌, refl, sym, ◌∙◌, ap, subst, arith, length-append}
use Rattle.std.specs.Prelude.{nat_lt, IsTrue, if◌then◌else◌}
use Rattle.std.proofs.Math.Seq.{take-append-add}
use Rattle.std.proofs.lemmas.Bool.{cases_lt}
use Rattle.std.proofs.lemmas.List.{take_all, get_or-map, get_or_past, get_or-drop, take-append-drop, length-take-le, length-drop, length-replicate}
use Rattle.can_frame.specs.declared.level.Level.{Level}
use Rattle.can_frame.specs.declared.level.Level.TheVariants.{Dominant, Recessive}
use Rattle.can_frame.specs.Levels.{is_recessive, bits_of, number_from}
use Rattle.can_wire.specs.Crc.{plus, xor, lower_terms, scaled, crc_of, IsCrc}
use Rattle.can_wire.specs.Layout.{level_at, head_of, check_of}
use Rattle.can_wire.proofs.DivisionLemmas.{none, length-crc_of}
use Rattle.can_wire.proofs.XorLemmas.{plus_zero, xor_self, xor_zeros}
use Rattle.can_wire.proofs.Register.{register, crc_of-on, register-top, crc_of-none}
use Rattle.can_wire.proofs.LevelLemmas.{bits_of-none}
use Rattle.can_wire.proofs.LayoutNumbers.{bits_of-number_from, number_from-lt}
use Rattle.can_wire.proofs.LayoutPlaces.{level_at-dominant, level_at-append, level_at-behind}
use Rattle.can_wire.proofs.CheckRuns.{IsCrc-zero, zero-IsCrc}
use Rattle.can_mac.specs.Moves.{agrees}
use Rattle.can_mac.proofs.PartEnds.{agrees-told}
use Rattle.can_gates.specs.Circuit.{differ}
use Rattle.can_frame.proofs.LevelTests.{level_dominant}

-- A level more.

is_plus : (x y : Level) → is_recessive (plus x y) ≡ differ (is_recessive x) (is_recessive y)
is_plus Dominant y = refl
is_plus Recessive Dominant = refl
is_plus Recessive Recessive = refl

level_at-xor : (a b : List Level) (p : ℕ) → level_at (xor a b) p ≡ plus (level_at a p) (level_at b p)
level_at-xor [] b p = refl
level_at-xor (x ∷ a) [] p = sym (plus_zero (level_at (x ∷ a) p))
level_at-xor (x ∷ a) (y ∷ b) zero = refl
level_at-xor (x ∷ a) (y ∷ b) (suc p) = level_at-xor a b p

level_at-none : (n p : ℕ) → level_at (none n) p ≡ Dominant
level_at-none n p = level_at-dominant [] n p

scaled_at : (y : Level) (p : ℕ) → is_recessive (level_at (scaled y) p) ≡ (is_recessive y && is_recessive (level_at lower_terms p))
scaled_at Dominant p = ap is_recessive (level_at-none 15 p)
scaled_at Recessive p = refl

register_at : (a x : Level) (t : List Level) (p : ℕ) → is_recessive (level_at (register (a ∷ t) (x ∷ [])) p) ≡ differ (is_recessive (level_at t p)) (differ (is_recessive a) (is_recessive x) && is_recessive (level_at lower_terms p))
register_at a x t p =
    let y = plus a x in
    ap is_recessive (level_at-xor (xor t (none 15)) (scaled y) p ∙ ap (λ l. plus l (level_at (scaled y) p)) (level_at-xor t (none 15) p ∙ ap (plus (level_at t p)) (level_at-none 15 p) ∙ plus_zero (level_at t p)))
    ∙ is_plus (level_at t p) (level_at (scaled y) p)
    ∙ ap (differ (is_recessive (level_at t p))) (scaled_at y p ∙ ap (λ b. b && is_recessive (level_at lower_terms p)) (is_plus a x))

step_at : (r : List Level) (x : Level) (p : ℕ) → length r ≡ 15 → is_recessive (level_at (register r (x ∷ [])) p) ≡ differ (is_recessive (level_at r (p + 1))) (differ (is_recessive (level_at r 0)) (is_recessive x) && is_recessive (level_at lower_terms p))
step_at [] x p h = absurd (omega (arith, h))
step_at (a ∷ t) x p h = let e : p + 1 ≡ suc p = omega arith in rw e (register_at a x t p)

pub crc_step : (u : List Level) (x : Level) (p : ℕ) → is_recessive (level_at (crc_of (u ++ x ∷ [])) p) ≡ differ (is_recessive (level_at (crc_of u) (p + 1))) (differ (is_recessive (level_at (crc_of u) 0)) (is_recessive x) && is_recessive (level_at lower_terms p))
crc_step u x p = ap (λ r. is_recessive (level_at r p)) (crc_of-on u (x ∷ [])) ∙ step_at (crc_of u) x p (length-crc_of u)

pub crc_past : (u : List Level) (p : ℕ) → 15 ≤ p → level_at (crc_of u) p ≡ Dominant
crc_past u p h = get_or_past (crc_of u) p Dominant (omega (arith, h, length-crc_of u))

-- Whether it agrees.

-- whether one of the first n is true
abbrev pub any_of : (ℕ → Bool) → ℕ → Bool
any_of f zero = false
any_of f (suc n) = any_of f n || f n

any_same : (f g : ℕ → Bool) (n : ℕ) → ((p : ℕ) → p < n → f p ≡ g p) → any_of f n ≡ any_of g n
any_same f g zero h = refl
any_same f g (suc n) h = rw (any_same f g n (λ p l. h p (omega (arith, l))), h n (omega arith)) refl

or_left : (a b : Bool) → (a || b) ≡ false → a ≡ false
or_left true b e = e
or_left false b e = refl

or_right : (a b : Bool) → (a || b) ≡ false → b ≡ false
or_right true b e = cc e
or_right false b e = e

last_of : (f : ℕ → Bool) (n p : ℕ) → any_of f (suc n) ≡ false → p < suc n → (any_of f n ≡ false → p < n → f p ≡ false) → f p ≡ false
last_of f n p e h before = by (cases_lt p n)
  where
    by : (p < n) ⊎ (n ≤ p) → f p ≡ false
    by (inl l) = before (or_left (any_of f n) (f n) e) l
    by (inr l) = let same : p ≡ n = omega (arith, l, h) in rw same (or_right (any_of f n) (f n) e)

none_of : (f : ℕ → Bool) (n p : ℕ) → any_of f n ≡ false → p < n → f p ≡ false
none_of f zero p e h = absurd (omega (arith, h))
none_of f (suc n) p e h = last_of f n p e h (λ d l. none_of f n p d l)

any_none : (n k : ℕ) → any_of (λ p. is_recessive (level_at (none k) p)) n ≡ false
any_none zero k = refl
any_none (suc n) k = rw (any_none n k, level_at-none k n) refl

all_dominant : (l : List Level) → ((p : ℕ) → p < length l → is_recessive (level_at l p) ≡ false) → l ≡ none (length l)
all_dominant [] h = refl
all_dominant (x ∷ l) h = rw (level_dominant x (h 0 (omega arith))) (ap (λ t. Dominant ∷ t) (all_dominant l (λ p lt. h (suc p) (omega (arith, lt)))))

-- the CRC sequence is right if the CRC of all levels is 0
agree_by : (u : List Level) (any : Bool) → 15 ≤ length u → any_of (λ p. is_recessive (level_at (crc_of u) p)) 15 ≡ any → not any ≡ agrees u
agree_by u any long is = agrees-told u (not any) (agreed any is, divided any is)
  where
    agreed : (any : Bool) → any_of (λ p. is_recessive (level_at (crc_of u) p)) 15 ≡ any → IsTrue (not any) → IsCrc (head_of u) (check_of u)
    agreed true e t = cc t
    agreed false e t =
        let size = length-crc_of u in
        let clear : crc_of u ≡ none 15 = all_dominant (crc_of u) (λ p h. none_of (λ p. is_recessive (level_at (crc_of u) p)) 15 p e (omega (arith, h, size))) ∙ ap none size in
        IsCrc-zero u long 0 (bits_of-none 15 ∙ sym clear) refl

    divided : (any : Bool) → any_of (λ p. is_recessive (level_at (crc_of u) p)) 15 ≡ any → IsCrc (head_of u) (check_of u) → IsTrue (not any)
    divided false e t = refl
    divided true e t =
        let n = number_from 0 (crc_of u) in
        let bits : bits_of 15 n ≡ crc_of u = bits_of-number_from 15 0 (crc_of u) (length-crc_of u) in
        let zero_is : n ≡ 0 = zero-IsCrc u long n bits (subst (λ k. n < 2 ^ k) (length-crc_of u) (number_from-lt (crc_of u))) t in
        let clear : crc_of u ≡ none 15 = sym bits ∙ ap (bits_of 15) zero_is ∙ bits_of-none 15 in
        absurd (let contrary : true ≡ false = sym e ∙ ap (λ c. any_of (λ p. is_recessive (level_at c p)) 15) clear ∙ any_none 15 15 in cc contrary)

pub agree_is : (f : ℕ → Bool) (u : List Level) → 15 ≤ length u → ((p : ℕ) → p < 15 → f p ≡ is_recessive (level_at (crc_of u) p)) → not (any_of f 15) ≡ agrees u
agree_is f u long is = agree_by u (any_of f 15) long (sym (any_same f (λ p. is_recessive (level_at (crc_of u) p)) 15 is))

-- What is sent.

-- after the levels of a list and some of its CRC sequence, the register has the rest
register_rest : (h : List Level) (j : ℕ) → j ≤ 15 → crc_of (h ++ take j (crc_of h)) ≡ drop j (crc_of h) ++ none j
register_rest h j few =
    let c = crc_of h in
    let t = take j c in
    let size : length t ≡ j = length-take-le j c (omega (arith, length-crc_of h, few)) in
    let rest : length (drop j c) + length t ≡ 15 = omega (arith, length-drop j c, length-crc_of h, size, few) in
    let nothing : crc_of (xor t t) ≡ none 15 = ap crc_of (xor_self t) ∙ crc_of-none (length t) in
    let long : 15 ≤ length (drop j c ++ none (length t)) = omega (arith, length-append (drop j c) (none (length t)), length-replicate (length t) Dominant, rest) in
    crc_of-on h t ∙ ap (λ r. register r t) (sym (take-append-drop j c)) ∙ register-top t (drop j c) t refl rest ∙ ap (xor (drop j c ++ none (length t))) nothing ∙ xor_zeros (drop j c ++ none (length t)) 15 long ∙ ap (λ n. drop j c ++ none n) size

-- its first level is the next one of the CRC sequence
top_is_next : (h : List Level) (j : ℕ) → level_at (crc_of (h ++ take j (crc_of h))) 0 ≡ level_at (crc_of h) j
top_is_next h j = by (cases_lt j 15)
  where
    at : (j : ℕ) → j ≤ 15 → level_at (crc_of (h ++ take j (crc_of h))) 0 ≡ level_at (crc_of h) j
    at j few =
        let zero_more : j + 0 ≡ j = omega arith in
        ap (λ r. level_at r 0) (register_rest h j few) ∙ level_at-dominant (drop j (crc_of h)) j 0 ∙ get_or-drop j (crc_of h) 0 Dominant ∙ ap (level_at (crc_of h)) zero_more

    by : (j < 15) ⊎ (15 ≤ j) → level_at (crc_of (h ++ take j (crc_of h))) 0 ≡ level_at (crc_of h) j
    by (inl l) = at j (omega (arith, l))
    by (inr l) =
        let all : take j (crc_of h) ≡ take 15 (crc_of h) = take_all j (crc_of h) (omega (arith, l, length-crc_of h)) ∙ sym (take_all 15 (crc_of h) (omega (arith, length-crc_of h))) in
        ap (λ t. level_at (crc_of (h ++ t)) 0) all ∙ at 15 (omega arith) ∙ crc_past h 15 (omega arith) ∙ sym (crc_past h j l)

pub below_is : (n k : ℕ) → n < k → nat_lt n k ≡ true
below_is n k h = grind (arith, h)

pub above_is : (n k : ℕ) → k ≤ n → nat_lt n k ≡ false
above_is n k h = grind (arith, h)

-- what follows the first n levels of a list with its CRC sequence; the register is the CRC of these n
pub next_level : (h u : List Level) (n : ℕ) → u ≡ take n (h ++ crc_of h) → is_recessive (level_at (h ++ crc_of h) n) ≡ (if nat_lt n (length h) then is_recessive (level_at h n) else is_recessive (level_at (crc_of u) 0))
next_level h u n is = by (cases_lt n (length h))
  where
    by : (n < length h) ⊎ (length h ≤ n) → is_recessive (level_at (h ++ crc_of h) n) ≡ cond (nat_lt n (length h)) (is_recessive (level_at h n)) (is_recessive (level_at (crc_of u) 0))
    by (inl l) = rw (below_is n (length h) l, level_at-append h (crc_of h) n l) refl
    by (inr l) =
        let more : length h + (n - length h) ≡ n = omega (arith, l) in
        let parts : u ≡ h ++ take (n - length h) (crc_of h) = is ∙ ap (λ k. take k (h ++ crc_of h)) (sym more) ∙ take-append-add h (crc_of h) (n - length h) in
        rw (above_is n (length h) l) (ap is_recessive (level_at-behind h (crc_of h) n l ∙ sym (top_is_next h (n - length h)) ∙ ap (λ w. level_at (crc_of w) 0) (sym parts)))

-- The generator's terms.

pub term_at : (p : ℕ) (d : Bool) → p < 15 → get_or (true ∷ false ∷ false ∷ false ∷ true ∷ false ∷ true ∷ true ∷ false ∷ false ∷ true ∷ true ∷ false ∷ false ∷ true ∷ []) p d ≡ is_recessive (level_at lower_terms p)
term_at p d h = get_or-map is_recessive lower_terms p Dominant d h

-- at a bit without a term of the generator polynomial nothing is added
pub term_left : (fed b t : Bool) → b ≡ false → b ≡ t → false ≡ (fed && t)
term_left true false false e is = refl
term_left false false t e is = refl
term_left true false true e is = cc is
term_left fed true t e is = cc e
