-- Lines of numbers, read from their text.
use Rattle.std.proofs.Common.{◌≡◌, ℕ, ◌+◌, ◌-◌, ◌*◌, ◌/◌, ◌%◌, ◌^◌, ◌<◌, ◌≤◌, false, eqb, List, [], ◌∷◌, ◌++◌, decimal, refl, sym, ◌∙◌, ap, arith, append_assoc, append-nil}
use Rattle.std.specs.List.{flat_map}
use Rattle.std.proofs.lemmas.Bool.{ne_eqb}
use Rattle.std.proofs.lemmas.Fmt.{decimal_by_steps}
use Rattle.can_gates.specs.Aiger.{line_text, numbers_in, numbers_behind}
use Rattle.can_gates.specs.AigerNumbers.{AreSmall, AreLines}

-- a digit goes on with the number
digit : (ns : List ℕ) (n d : ℕ) (rest : List ℕ) → d < 10 → numbers_in ns n ((48 + d) ∷ rest) ≡ numbers_in ns (10 * n + d) rest
digit ns n d rest small =
    let no_end : eqb (48 + d) 10 ≡ false = ne_eqb (48 + d) 10 (λ e. absurd (omega (arith, e))) in
    let no_blank : eqb (48 + d) 32 ≡ false = ne_eqb (48 + d) 32 (λ e. absurd (omega (arith, e))) in
    let same : 10 * n + (48 + d - 48) ≡ 10 * n + d = omega arith in rw (no_end, no_blank) (ap (λ k. numbers_in ns k rest) same)

-- these digits are read as this number
abbrev Reads : ℕ → List ℕ → Type 0
Reads n digits = (ns : List ℕ) (rest : List ℕ) → numbers_in ns 0 (digits ++ rest) ≡ numbers_in ns n rest

one_digit : (n : ℕ) → n < 10 → Reads n ((48 + n) ∷ [])
one_digit n small ns rest =
    let same : 10 * 0 + n ≡ n = omega arith in digit ns 0 n rest small ∙ ap (λ k. numbers_in ns k rest) same

more_digits : (n : ℕ) (digits : List ℕ) → 10 ≤ n → Reads (n / 10) digits → Reads n (digits ++ ((48 + n % 10) ∷ []))
more_digits n digits long before ns rest =
    let same : 10 * (n / 10) + n % 10 ≡ n = omega arith in
    ap (numbers_in ns 0) (append_assoc digits ((48 + n % 10) ∷ []) rest) ∙ before ns ((48 + n % 10) ∷ rest) ∙ digit ns (n / 10) (n % 10) rest (omega arith) ∙ ap (λ k. numbers_in ns k rest) same

decimal_read : (n : ℕ) → n < 2 ^ 64 → Reads n (decimal n)
decimal_read n small = decimal_by_steps Reads one_digit more_digits n small

line_read : (before : List ℕ) (n : ℕ) (ns rest : List ℕ) → n < 2 ^ 64 → AreSmall ns → numbers_in before 0 ((decimal n ++ numbers_behind ns) ++ rest) ≡ (before ++ n ∷ ns) ∷ numbers_in [] 0 rest
line_read before n [] rest small others = ap (numbers_in before 0) (append_assoc (decimal n) (numbers_behind []) rest) ∙ decimal_read n small before (numbers_behind [] ++ rest)
line_read before n (m ∷ ns) rest small others =
    ap (numbers_in before 0) (append_assoc (decimal n) (numbers_behind (m ∷ ns)) rest) ∙ decimal_read n small before (numbers_behind (m ∷ ns) ++ rest)
    ∙ line_read (before ++ n ∷ []) m ns rest others.0 others.1 ∙ ap (λ l. l ∷ numbers_in [] 0 rest) (append_assoc before (n ∷ []) (m ∷ ns))

-- lines that come before other text
pub lines_before : (lines : List (List ℕ)) (rest : List ℕ) → AreLines lines → numbers_in [] 0 (flat_map line_text lines ++ rest) ≡ lines ++ numbers_in [] 0 rest
lines_before [] rest are = refl
lines_before ([] ∷ lines) rest are = absurd are.0
lines_before ((n ∷ ns) ∷ lines) rest are =
    let more = flat_map line_text lines in
    ap (numbers_in [] 0) (append_assoc (line_text (n ∷ ns)) more rest) ∙ line_read [] n ns (more ++ rest) are.0.0 are.0.1 ∙ ap (λ ls. (n ∷ ns) ∷ ls) (lines_before lines rest are.1)

pub lines_read : (lines : List (List ℕ)) → AreLines lines → numbers_in [] 0 (flat_map line_text lines) ≡ lines
lines_read lines are = ap (numbers_in [] 0) (sym (append-nil (flat_map line_text lines))) ∙ lines_before lines [] are ∙ append-nil lines
