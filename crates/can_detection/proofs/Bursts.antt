-- Two multiples of the generator that differ only within fifteen neighbouring bits are equal. The division is linear, so
-- it leaves nothing of their sum. The sum is a burst with zeros before and after it. One more zero after a list changes
-- whether the division leaves something: never, since the generator's last term is 1.
use Rattle.std.proofs.Common.{◌≡◌, ℕ, suc, zero, ◌+◌, ◌-◌, ◌≤◌, List, [], ◌∷◌, ◌++◌, length, take, drop, refl, sym, ◌∙◌, ap, subst, arith, append_assoc, length-append}
use Rattle.std.proofs.lemmas.List.{append-nil, append_cancel_left, length-replicate, replicate-append-replicate, length-take-le, length-drop, take-append-drop, same_from_push}
use Rattle.can_frame.specs.declared.level.Level.{Level}
use Rattle.can_frame.specs.declared.level.Level.TheVariants.{Dominant, Recessive}
use Rattle.can_wire.specs.Crc.{xor, lower_terms, Multiple, scaled, reduced, crc_of}
use Rattle.can_wire.proofs.XorLemmas.{xor_nil, xor_comm, xor_zeros, xor_self, xor_twice, xor-append, length-xor}
use Rattle.can_wire.proofs.DivisionLemmas.{none, length-scaled, reduced-xor, reduced_past, reduced_none_front, xor-behind, length-crc_of, IsCrc-only}

-- the division leaves nothing of a multiple
nothing_left : (n : ℕ) (l : List Level) → Multiple l → length l ≡ n + 15 → reduced n l ≡ none 15
unfolding crc_of
nothing_left n l divides size =
    let b = take n l in
    let c = drop n l in
    let front : length b ≡ n = length-take-le n l (omega arith) in
    let fifteen : length c ≡ 15 = omega (arith, length-drop n l) in
    let whole : b ++ c ≡ l = take-append-drop n l in
    let only : c ≡ crc_of b = IsCrc-only b c (record { length = fifteen; divides = subst Multiple (sym whole) divides }) in
    let divided : reduced (length b) (b ++ c) ≡ xor (crc_of b) c =
    ap (reduced (length b)) (sym (xor-behind b c (omega arith))) ∙ reduced-xor (length b) (b ++ none 15) (none (length b) ++ c)
    ∙ ap (xor (crc_of b)) (reduced_none_front (length b) c (omega arith)) in
    let nothing : xor (crc_of b) c ≡ none 15 = ap (xor (crc_of b)) only ∙ xor_self (crc_of b) ∙ ap none (length-crc_of b) in
    ap (λ k. reduced k l) (sym front) ∙ ap (reduced (length b)) (sym whole) ∙ divided ∙ nothing

-- a step of the division that leaves nothing began with nothing
nothing_before : (x : Level) (l : List Level) → length l ≡ 14 → xor (l ++ Dominant ∷ []) (scaled x) ≡ none 15 → x ∷ l ≡ none 15
nothing_before Dominant l size e =
    let long : 15 ≤ length (l ++ Dominant ∷ []) = omega (arith, length-append l (Dominant ∷ [])) in
    let same : l ++ Dominant ∷ [] ≡ none 14 ++ Dominant ∷ [] = sym (xor_zeros (l ++ Dominant ∷ []) 15 long) ∙ e in
    ap (λ t. Dominant ∷ t) (same_from_push l (none 14) Dominant Dominant same).0
nothing_before Recessive l size e =
    let more = l ++ Dominant ∷ [] in
    let long : 15 ≤ length more = omega (arith, length-append l (Dominant ∷ [])) in
    let same : more ≡ take 14 lower_terms ++ Recessive ∷ [] = sym (xor_twice more lower_terms long) ∙ ap (λ t. xor t lower_terms) e in
    let last : Dominant ≡ Recessive = (same_from_push l (take 14 lower_terms) Dominant Recessive same).1 in
    cc

-- if the division leaves nothing of fifteen bits followed by zeros, they are zeros too
zeros_before : (j : ℕ) (l : List Level) → length l ≡ 15 → reduced j (l ++ none j) ≡ none 15 → l ≡ none 15
zeros_before zero l size e = sym (append-nil l) ∙ e
zeros_before (suc j) [] size e = absurd (omega arith)
zeros_before (suc j) (x ∷ l) size e =
    let fourteen : length l ≡ 14 = omega arith in
    let more = l ++ Dominant ∷ [] in
    let more_size : length more ≡ 15 = omega (arith, length-append l (Dominant ∷ [])) in
    let step = xor more (scaled x) in
    let step_size : length step ≡ 15 = length-xor more (scaled x) (omega (arith, length-scaled x)) ∙ more_size in
    let regrouped : l ++ none (suc j) ≡ more ++ none j = sym (append_assoc l (Dominant ∷ []) (none j)) in
    let same_size : length more ≡ length (scaled x) = more_size ∙ sym (length-scaled x) in
    let shorter : xor (more ++ none j) (scaled x) ≡ step ++ none j =
    ap (xor (more ++ none j)) (sym (append-nil (scaled x))) ∙ xor-append more (scaled x) (none j) [] same_size ∙ ap (λ t. step ++ t) (xor_nil (none j)) in
    let rest : reduced j (step ++ none j) ≡ none 15 = ap (reduced j) (sym shorter) ∙ ap (λ t. reduced j (xor t (scaled x))) (sym regrouped) ∙ e in
    nothing_before x l fourteen (zeros_before j step step_size rest)

-- so it is with a burst that has zeros before and after it
burst_is_none : (i j n : ℕ) (z : List Level) → 15 ≤ i → length z ≤ 15 → n + 15 ≡ i + length z + j → reduced n (none i ++ (z ++ none j)) ≡ none 15 → z ≡ none (length z)
burst_is_none i j n z long few places e =
    let k = 15 - length z in
    let i' = i - k in
    let wide = none k ++ z in
    let wide_size : length wide ≡ 15 = omega (arith, length-append (none k) z, length-replicate k Dominant) in
    let parts : i ≡ i' + k = omega arith in
    let steps : n ≡ i' + j = omega arith in
    let regrouped : none i ++ (z ++ none j) ≡ none i' ++ (wide ++ none j) =
    ap (λ m. none m ++ (z ++ none j)) parts ∙ ap (λ t. t ++ (z ++ none j)) (sym (replicate-append-replicate i' k Dominant))
    ∙ append_assoc (none i') (none k) (z ++ none j) ∙ ap (λ t. none i' ++ t) (sym (append_assoc (none k) z (none j))) in
    let far : 15 ≤ length (wide ++ none j) = omega (arith, length-append wide (none j)) in
    let left : reduced j (wide ++ none j) ≡ none 15 =
    sym (reduced_past i' j (wide ++ none j) far) ∙ ap (λ m. reduced m (none i' ++ (wide ++ none j))) (sym steps) ∙ ap (reduced n) (sym regrouped) ∙ e in
    let whole : k + length z ≡ 15 = omega arith in
    append_cancel_left (none k) z (none (length z)) (zeros_before j wide wide_size left ∙ sym (replicate-append-replicate k (length z) Dominant ∙ ap none whole))

-- with zeros before it a multiple is a multiple
padded-one : {l : List Level} → Multiple l → Multiple (Dominant ∷ l)
padded-one (Multiple.zeros n) = Multiple.zeros (suc n)
padded-one (Multiple.sum l i j divides same) = Multiple.sum (Dominant ∷ l) (suc i) j (padded-one divides) (ap suc same)

padded : (n : ℕ) (l : List Level) → Multiple l → Multiple (none n ++ l)
padded zero l divides = divides
padded (suc n) l divides = padded-one (padded n l divides)

pub bursts_equal : (a x y b : List Level) → length x ≡ length y → length x ≤ 15 → Multiple (a ++ (x ++ b)) → Multiple (a ++ (y ++ b)) → x ≡ y
bursts_equal a x y b same_size few first second =
    let n = length a + length x + length b in
    let l = none 15 ++ (a ++ (x ++ b)) in
    let m = none 15 ++ (a ++ (y ++ b)) in
    let z = xor x y in
    let i = 15 + length a in
    let l_size : length l ≡ n + 15 = omega (arith, length-append (none 15) (a ++ (x ++ b)), length-append a (x ++ b), length-append x b) in
    let m_size : length m ≡ n + 15 = omega (arith, length-append (none 15) (a ++ (y ++ b)), length-append a (y ++ b), length-append y b) in
    let z_size : length z ≡ length x = length-xor x y (omega arith) in
    let both : reduced n (xor l m) ≡ none 15 =
    reduced-xor n l m ∙ ap (λ t. xor t (reduced n m)) (nothing_left n l (padded 15 (a ++ (x ++ b)) first) l_size)
    ∙ ap (xor (none 15)) (nothing_left n m (padded 15 (a ++ (y ++ b)) second) m_size) in
    let sum : xor l m ≡ none i ++ (z ++ none (length b)) =
    xor-append (none 15) (none 15) (a ++ (x ++ b)) (a ++ (y ++ b)) refl
    ∙ ap (λ t. none 15 ++ t) (xor-append a a (x ++ b) (y ++ b) refl ∙ ap (λ t. xor a a ++ t) (xor-append x y b b same_size) ∙ ap (λ t. t ++ (z ++ xor b b)) (xor_self a) ∙ ap (λ t. none (length a) ++ (z ++ t)) (xor_self b))
    ∙ sym (append_assoc (none 15) (none (length a)) (z ++ none (length b))) ∙ ap (λ t. t ++ (z ++ none (length b))) (replicate-append-replicate 15 (length a) Dominant) in
    let nothing : z ≡ none (length z) = burst_is_none i (length b) n z (omega arith) (omega arith) (omega arith) (ap (reduced n) (sym sum) ∙ both) in
    let within : length y ≤ length x = omega arith in
    let zeros_within : length z ≤ length y = omega arith in
    sym (xor_twice x y within) ∙ ap (λ t. xor t y) nothing ∙ xor_comm (none (length z)) y ∙ xor_zeros y (length z) zeros_within
