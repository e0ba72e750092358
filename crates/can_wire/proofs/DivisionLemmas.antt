-- Long division by the generator: it is linear, its remainder is zero for a multiple, and the remainder
-- completes a list to a multiple. So the list that `crc_of` computes is a CRC sequence, and the only one.
use Rattle.std.proofs.Common.{◌≡◌, ℕ, suc, zero, ◌+◌, ◌≤◌, List, [], ◌∷◌, ◌++◌, length, refl, sym, ◌∙◌, ap, subst, arith, replicate, length-append}
use Rattle.std.proofs.lemmas.List.{length-replicate, replicate-append-replicate}
use Rattle.can_frame.specs.declared.level.Level.{Level}
use Rattle.can_frame.specs.declared.level.Level.TheVariants.{Dominant, Recessive}
use Rattle.can_wire.specs.Crc.{plus, xor, lower_terms, generator, shifted, Multiple, IsCrc, scaled, reduced, crc_of}
use Rattle.can_wire.proofs.XorLemmas.{xor_nil, xor_comm, xor_assoc, xor_zeros, xor_self, xor_swap, length-xor, xor_padded, xor_twice, xor-append}

-- n dominant bits
abbrev pub none : ℕ → List Level
none n = replicate n Dominant

scaled-plus : (x y : Level) → scaled (plus x y) ≡ xor (scaled x) (scaled y)
scaled-plus Dominant Dominant = refl
scaled-plus Dominant Recessive = refl
scaled-plus Recessive Dominant = refl
scaled-plus Recessive Recessive = refl

pub length-scaled : (x : Level) → length (scaled x) ≡ 15
length-scaled Dominant = refl
length-scaled Recessive = refl

-- the division is linear
pub reduced-xor : (n : ℕ) (a b : List Level) → reduced n (xor a b) ≡ xor (reduced n a) (reduced n b)
reduced-xor zero a b = refl
reduced-xor (suc n) [] b = refl
reduced-xor (suc n) (x ∷ a) [] = sym (xor_nil (reduced (suc n) (x ∷ a)))
reduced-xor (suc n) (x ∷ a) (y ∷ b) =
    ap (reduced n) (ap (xor (xor a b)) (scaled-plus x y) ∙ xor_swap a b (scaled x) (scaled y))
    ∙ reduced-xor n (xor a (scaled x)) (xor b (scaled y))

pub length-reduced : (n : ℕ) (l : List Level) → length l ≡ n + 15 → length (reduced n l) ≡ 15
length-reduced zero l h = omega arith
length-reduced (suc n) [] h = absurd (omega arith)
length-reduced (suc n) (x ∷ l) h =
    let fits : length (scaled x) ≤ length l = omega (arith, length-scaled x) in
    let size : length l ≡ n + 15 = omega arith in
    length-reduced n (xor l (scaled x)) (length-xor l (scaled x) fits ∙ size)

reduced-none : (n k : ℕ) → 15 ≤ k → reduced n (none (n + k)) ≡ none k
reduced-none zero k h = ap none (omega arith)
reduced-none (suc n) k h =
    let e : suc n + k ≡ suc (n + k) = omega arith in
    let size : length (none (n + k)) ≡ n + k = length-replicate (n + k) Dominant in
    ap (λ m. reduced (suc n) (none m)) e ∙ ap (reduced n) (xor_zeros (none (n + k)) 15 (omega arith)) ∙ reduced-none n k h

-- dominant bits in front are passed over
pub reduced_past : (i k : ℕ) (l : List Level) → 15 ≤ length l → reduced (i + k) (none i ++ l) ≡ reduced k l
reduced_past zero k l h = ap (λ m. reduced m l) (let e : 0 + k ≡ k = omega arith in e)
reduced_past (suc i) k l h =
    let e : suc i + k ≡ suc (i + k) = omega arith in
    let long : 15 ≤ length (none i ++ l) = omega (arith, length-append (none i) l) in
    ap (λ m. reduced m (none (suc i) ++ l)) e ∙ ap (reduced (i + k)) (xor_zeros (none i ++ l) 15 long) ∙ reduced_past i k l h

-- so the division of dominant bits alone leaves what follows them
pub reduced_none_front : (n : ℕ) (l : List Level) → 15 ≤ length l → reduced n (none n ++ l) ≡ l
reduced_none_front n l h = ap (λ k. reduced k (none n ++ l)) (let e : n ≡ n + 0 = omega arith in e) ∙ reduced_past n 0 l h

reduced-generator : (j : ℕ) → reduced (suc j) (generator ++ none j) ≡ none 15
reduced-generator j =
    let whole : lower_terms ++ [] ≡ lower_terms = refl in
    let swapped : 15 + j ≡ j + 15 = omega arith in
    let away : xor (lower_terms ++ none j) lower_terms ≡ none (j + 15) =
    ap (xor (lower_terms ++ none j)) (sym whole) ∙ xor-append lower_terms lower_terms (none j) [] refl
    ∙ ap (λ t. none 15 ++ t) (xor_nil (none j)) ∙ replicate-append-replicate 15 j Dominant ∙ ap none swapped in
    ap (reduced j) away ∙ reduced-none j 15 (omega arith)

reduced-shifted : (i j : ℕ) → reduced (i + suc j) (shifted i j) ≡ none 15
reduced-shifted i j =
    let long : 15 ≤ length (generator ++ none j) = omega (arith, length-append generator (none j)) in
    reduced_past i (suc j) (generator ++ none j) long ∙ reduced-generator j

length-shifted : (i j : ℕ) → length (shifted i j) ≡ i + suc j + 15
length-shifted i j =
    omega (arith, length-append (none i) (generator ++ none j), length-append generator (none j), length-replicate i Dominant, length-replicate j Dominant)

-- the division leaves nothing of a multiple
Multiple-reduced : (n : ℕ) (l : List Level) → Multiple l → length l ≡ n + 15 → reduced n l ≡ none 15
Multiple-reduced n _ (Multiple.zeros k) h =
    let e : k ≡ n + 15 = omega (arith, length-replicate k Dominant) in
    ap (λ m. reduced n (none m)) e ∙ reduced-none n 15 (omega arith)
Multiple-reduced n _ (Multiple.sum l i j m same) h =
    let same_length : length (xor l (shifted i j)) ≡ length l = length-xor l (shifted i j) (omega arith) in
    let long : length l ≡ n + 15 = omega arith in
    let places : n ≡ i + suc j = omega (arith, length-shifted i j) in
    reduced-xor n l (shifted i j)
    ∙ ap (λ t. xor t (reduced n (shifted i j))) (Multiple-reduced n l m long)
    ∙ ap (xor (none 15)) (ap (λ k. reduced k (shifted i j)) places ∙ reduced-shifted i j)

-- with a dominant bit in front a multiple is a multiple
Multiple-cons : {l : List Level} → Multiple l → Multiple (Dominant ∷ l)
Multiple-cons (Multiple.zeros n) = Multiple.zeros (suc n)
Multiple-cons (Multiple.sum l i j m same) = Multiple.sum (Dominant ∷ l) (suc i) j (Multiple-cons m) (ap suc same)

-- what the division leaves of a list completes it to a multiple
Multiple-completed : (n : ℕ) (l : List Level) → length l ≡ n + 15 → Multiple (xor l (none n ++ reduced n l))
Multiple-completed zero l h = subst Multiple (sym (xor_self l)) (Multiple.zeros (length l))
Multiple-completed (suc n) [] h = absurd (omega arith)
Multiple-completed (suc n) (Dominant ∷ l) h =
    let size : length l ≡ n + 15 = omega arith in
    let same : xor l (none 15) ≡ l = xor_zeros l 15 (omega arith) in
    let rest = none n ++ reduced n (xor l (none 15)) in
    let m = Multiple-completed n (xor l (none 15)) (ap length same ∙ size) in
    subst (λ t. Multiple (Dominant ∷ xor t rest)) same (Multiple-cons m)
Multiple-completed (suc n) (Recessive ∷ l) h =
    let size : length l ≡ n + 15 = omega arith in
    let less = xor l lower_terms in
    let less_size : length less ≡ n + 15 = length-xor l lower_terms (omega arith) ∙ size in
    let rest = none n ++ reduced n less in
    let rest_size : length rest ≡ n + 15 = length-append (none n) (reduced n less) ∙ omega (arith, length-replicate n Dominant, length-reduced n less less_size) in
    let sum_size : length (xor less rest) ≡ n + 15 = length-xor less rest (omega arith) ∙ less_size in
    let whole_size : length (xor l rest) ≡ n + 15 = length-xor l rest (omega arith) ∙ size in
    let shape : length (shifted 0 n) ≡ length (Dominant ∷ xor less rest) = omega (arith, length-shifted 0 n) in
    let m = Multiple.sum (Dominant ∷ xor less rest) 0 n (Multiple-cons (Multiple-completed n less less_size)) shape in
    let regrouped : xor less rest ≡ xor (xor l rest) lower_terms =
    xor_assoc l lower_terms rest ∙ ap (xor l) (xor_comm lower_terms rest) ∙ sym (xor_assoc l rest lower_terms) in
    let same : xor (xor less rest) (lower_terms ++ none n) ≡ xor l rest =
    xor_padded (xor less rest) lower_terms n (omega arith) ∙ ap (λ t. xor t lower_terms) regrouped ∙ xor_twice (xor l rest) lower_terms (omega arith) in
    subst (λ t. Multiple (Recessive ∷ t)) same m

-- the end of a list is a summand
pub xor-behind : (b c : List Level) → 15 ≤ length c → xor (b ++ none 15) (none (length b) ++ c) ≡ b ++ c
xor-behind b c h =
    let size : length b ≡ length (none (length b)) = sym (length-replicate (length b) Dominant) in
    let front : xor b (none (length b)) ≡ b = xor_zeros b (length b) (omega arith) in
    let back : xor (none 15) c ≡ c = xor_comm (none 15) c ∙ xor_zeros c 15 h in
    xor-append b (none (length b)) (none 15) c size ∙ ap (λ t. t ++ xor (none 15) c) front ∙ ap (λ t. b ++ t) back

pub length-crc_of : (b : List Level) → length (crc_of b) ≡ 15
unfolding crc_of
length-crc_of b = length-reduced (length b) (b ++ none 15) (length-append b (none 15))

-- what is computed is a CRC sequence
pub IsCrc-crc_of : (b : List Level) → IsCrc b (crc_of b)
unfolding crc_of
IsCrc-crc_of b = record {
  length = length-crc_of b;
  divides = subst Multiple (xor-behind b (crc_of b) (omega (arith, length-crc_of b))) (Multiple-completed (length b) (b ++ none 15) (length-append b (none 15)));
}

-- and there is no other
pub IsCrc-only : (b c : List Level) → IsCrc b c → c ≡ crc_of b
unfolding crc_of
IsCrc-only b c h =
    let n = length b in
    let r = crc_of b in
    let r_size : length r ≡ 15 = length-crc_of b in
    let c_size : length c ≡ 15 = h.length in
    let nothing_left : reduced n (b ++ c) ≡ none 15 = Multiple-reduced n (b ++ c) h.divides (omega (arith, length-append b c)) in
    let sum_is_none : xor r c ≡ none 15 =
    ap (xor r) (sym (reduced_none_front n c (omega arith))) ∙ sym (reduced-xor n (b ++ none 15) (none n ++ c))
    ∙ ap (reduced n) (xor-behind b c (omega arith)) ∙ nothing_left in
    sym (xor_twice c r (omega arith)) ∙ ap (λ t. xor t r) (xor_comm c r ∙ sum_is_none) ∙ xor_comm (none 15) r ∙ xor_zeros r 15 (omega arith)
