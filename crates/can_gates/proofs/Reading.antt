-- Statements, read from their texts.
use Rattle.std.proofs.Common.{◌≡◌, ℕ, ◌+◌, ◌%◌, ◌^◌, ◌<◌, if◌then◌else◌, Bool, true, false, eqb, List, [], ◌∷◌, ◌++◌, Some, map, decimal, codes, refl, sym, ◌∙◌, ap, arith, append_assoc, append-nil}
use Rattle.std.specs.List.{flat_map}
use Rattle.std.proofs.lemmas.Bool.{ne_eqb}
use Rattle.std.proofs.lemmas.Fmt.{decimal_by_steps, decimal_is_IsNumeral}
use Rattle.can_gates.specs.declared.literal.Literal.{Literal}
use Rattle.can_gates.specs.Statements.{Statement, Wire, And, Assign, Take, literal_text, statement_text, words_by_line, literal_in, signal_in, statement_in, words_in, IsOneLine, IsName, IsProper, AreProper}

-- bytes of a name go on with the word
pub name_read : (words : List (List ℕ)) (word name rest : List ℕ) → IsName name → words_by_line words word (name ++ rest) ≡ words_by_line words (word ++ name) rest
name_read words word [] rest is = ap (λ w. words_by_line words w rest) (sym (append-nil word))
name_read words word (c ∷ name) rest is =
    rw (ne_eqb c 10 is.0, ne_eqb c 32 is.1, ne_eqb c 59 is.2) (name_read words (word ++ c ∷ []) name rest is.3 ∙ ap (λ w. words_by_line words w rest) (append_assoc word (c ∷ []) name))

-- the same in a longer text
pub part_read : (words : List (List ℕ)) (word name more rest : List ℕ) → IsName name → words_by_line words word ((name ++ more) ++ rest) ≡ words_by_line words (word ++ name) (more ++ rest)
part_read words word name more rest is = ap (words_by_line words word) (append_assoc name more rest) ∙ name_read words word name (more ++ rest) is

-- the bytes of a line's last words, and its end
pub line_read : (words : List (List ℕ)) (word line rest : List ℕ) → IsOneLine line → words_by_line words word (line ++ (codes "\n" ++ rest)) ≡ (words ++ words_in word line) ∷ words_by_line [] [] rest
line_read words word [] rest is = refl
line_read words word (c ∷ line) rest is =
    rw (ne_eqb c 10 is.0) (by (eqb c 32) (eqb c 59) (line_read (words ++ word ∷ []) [] line rest is.1) (line_read words word line rest is.1) (line_read words (word ++ c ∷ []) line rest is.1))
  where
    text : List ℕ
    text = line ++ (codes "\n" ++ rest)

    by : (blank semicolon : Bool) → words_by_line (words ++ word ∷ []) [] text ≡ ((words ++ word ∷ []) ++ words_in [] line) ∷ words_by_line [] [] rest → words_by_line words word text ≡ (words ++ words_in word line) ∷ words_by_line [] [] rest
        → words_by_line words (word ++ c ∷ []) text ≡ (words ++ words_in (word ++ c ∷ []) line) ∷ words_by_line [] [] rest
        → (if blank then words_by_line (words ++ word ∷ []) [] text else (if semicolon then words_by_line words word text else words_by_line words (word ++ c ∷ []) text))
        ≡ (words ++ (if blank then word ∷ words_in [] line else (if semicolon then words_in word line else words_in (word ++ c ∷ []) line))) ∷ words_by_line [] [] rest
    by true semicolon ended passed more = ended ∙ ap (λ l. l ∷ words_by_line [] [] rest) (append_assoc words (word ∷ []) (words_in [] line))
    by false true ended passed more = passed
    by false false ended passed more = more

pub joined_names : (a b : List ℕ) → IsName a → IsName b → IsName (a ++ b)
joined_names [] b first second = second
joined_names (c ∷ a) b first second = (first.0, first.1, first.2, joined_names a b first.3 second)

one_digit : (d : ℕ) → d < 10 → IsName ((48 + d) ∷ [])
one_digit d small = ((λ e. absurd (omega (arith, e))), (λ e. absurd (omega (arith, e))), (λ e. absurd (omega (arith, small, e))), tt)

pub decimal_name : (n : ℕ) → n < 2 ^ 64 → IsName (decimal n)
decimal_name n small = decimal_by_steps (λ m digits. IsName digits) one_digit (λ m digits long before. joined_names digits ((48 + m % 10) ∷ []) before (one_digit (m % 10) (omega arith))) n small

literal_name : (l : Literal) → l.signal < 2 ^ 64 → IsName (literal_text l)
literal_name l small = by l.negated
  where
    letter : IsName (codes "n")
    letter = ((λ e. absurd (omega (arith, e))), (λ e. absurd (omega (arith, e))), (λ e. absurd (omega (arith, e))), tt)

    sign : IsName (codes "~n")
    sign = ((λ e. absurd (omega (arith, e))), (λ e. absurd (omega (arith, e))), (λ e. absurd (omega (arith, e))), letter)

    by : (b : Bool) → IsName ((if b then codes "~n" else codes "n") ++ decimal l.signal)
    by true = joined_names (codes "~n") (decimal l.signal) sign (decimal_name l.signal small)
    by false = joined_names (codes "n") (decimal l.signal) letter (decimal_name l.signal small)

-- ---- the words of each statement

abbrev pub words_of : Statement → List (List ℕ)
words_of (Wire s name) = codes "wire" ∷ (codes "n" ++ decimal s) ∷ codes "=" ∷ name ∷ []
words_of (And g) = codes "wire" ∷ (codes "n" ++ decimal g.signal) ∷ codes "=" ∷ literal_text g.left ∷ codes "&" ∷ literal_text g.right ∷ []
words_of (Assign name l) = codes "assign" ∷ name ∷ codes "=" ∷ literal_text l ∷ []
words_of (Take name l) = name ∷ codes "<=" ∷ literal_text l ∷ []

pub words_read : (s : Statement) (rest : List ℕ) → IsProper s → words_by_line [] [] (statement_text s ++ rest) ≡ words_of s ∷ words_by_line [] [] rest
words_read (Wire s name) rest is =
    part_read (codes "wire" ∷ []) (codes "n") (decimal s) (codes " = " ++ (name ++ codes ";\n")) rest (decimal_name s is.0)
    ∙ part_read (codes "wire" ∷ (codes "n" ++ decimal s) ∷ codes "=" ∷ []) [] name (codes ";\n") rest is.1
words_read (And g) rest is =
    part_read (codes "wire" ∷ []) (codes "n") (decimal g.signal) (codes " = " ++ (literal_text g.left ++ (codes " & " ++ (literal_text g.right ++ codes ";\n")))) rest (decimal_name g.signal is.0)
    ∙ part_read (codes "wire" ∷ (codes "n" ++ decimal g.signal) ∷ codes "=" ∷ []) [] (literal_text g.left) (codes " & " ++ (literal_text g.right ++ codes ";\n")) rest (literal_name g.left is.1)
    ∙ part_read (codes "wire" ∷ (codes "n" ++ decimal g.signal) ∷ codes "=" ∷ literal_text g.left ∷ codes "&" ∷ []) [] (literal_text g.right) (codes ";\n") rest (literal_name g.right is.2)
words_read (Assign name l) rest is =
    part_read (codes "assign" ∷ []) [] name (codes " = " ++ (literal_text l ++ codes ";\n")) rest is.0
    ∙ part_read (codes "assign" ∷ name ∷ codes "=" ∷ []) [] (literal_text l) (codes ";\n") rest (literal_name l is.1)
words_read (Take name l) rest is =
    part_read [] [] name (codes " <= " ++ (literal_text l ++ codes ";\n")) rest is.0
    ∙ part_read (name ∷ codes "<=" ∷ []) [] (literal_text l) (codes ";\n") rest (literal_name l is.1)

-- ---- what they say

signal_read : (n : ℕ) → n < 2 ^ 64 → signal_in (codes "n" ++ decimal n) ≡ n
signal_read n small = (decimal_is_IsNumeral n small).1

literal_read : (l : Literal) → l.signal < 2 ^ 64 → literal_in (literal_text l) ≡ l
literal_read l small = by l.negated
  where
    by : (b : Bool) → literal_in ((if b then codes "~n" else codes "n") ++ decimal l.signal) ≡ record { signal = l.signal; negated = b }
    by true = ap (λ s. record { signal = s; negated = true }) (signal_read l.signal small)
    by false = ap (λ s. record { signal = s; negated = false }) (signal_read l.signal small)

pub statement_read : (s : Statement) → IsProper s → statement_in (words_of s) ≡ Some s
statement_read (Wire s name) is = ap (λ n. Some (Wire n name)) (signal_read s is.0)
statement_read (And g) is = rw (signal_read g.signal is.0, literal_read g.left is.1, literal_read g.right is.2) refl
statement_read (Assign name l) is = ap (λ k. Some (Assign name k)) (literal_read l is.1)
statement_read (Take name l) is = ap (λ k. Some (Take name k)) (literal_read l is.1)

pub statements_read : (statements : List Statement) → AreProper statements → map statement_in (words_by_line [] [] (flat_map statement_text statements)) ≡ map Some statements
statements_read [] are = refl
statements_read (s ∷ statements) are =
    ap (map statement_in) (words_read s (flat_map statement_text statements) are.0) ∙ rw (statement_read s are.0) (ap (λ l. Some s ∷ l) (statements_read statements are.1))
