-- Texts that are appended one after another, as the contract of the last append states them.
use Rattle.std.proofs.Common.{ℕ, ◌≡◌, List, ◌++◌, Result, Ok, Err, OnOk, ap, ◌∙◌}
use Rattle.std.proofs.lemmas.List.{append_assoc}

-- a and b are appended, and then c
pub three-appended : {A E : Type 0} (result : Result A E) (old first second third a b c : List ℕ)
    → first ≡ old ++ a → second ≡ first ++ b → OnOk result (third ≡ second ++ c) → OnOk result (third ≡ old ++ (a ++ (b ++ c)))
three-appended (Ok done) old first second third a b c one two three =
    three ∙ ap (λ t. t ++ c) two ∙ ap (λ t. (t ++ b) ++ c) one ∙ append_assoc (old ++ a) b c ∙ append_assoc old a (b ++ c)
three-appended (Err e) old first second third a b c one two three = tt

-- a, b and c are appended, and then d
pub four-appended : {A E : Type 0} (result : Result A E) (old first second third fourth a b c d : List ℕ)
    → first ≡ old ++ a → second ≡ first ++ b → third ≡ second ++ c → OnOk result (fourth ≡ third ++ d) → OnOk result (fourth ≡ old ++ (a ++ (b ++ (c ++ d))))
four-appended (Ok done) old first second third fourth a b c d one two three four =
    three-appended {A = Unit {0}} {E = Unit {0}} (Ok tt) old first second fourth a b (c ++ d) one two (four ∙ ap (λ t. t ++ d) three ∙ append_assoc second c d)
four-appended (Err e) old first second third fourth a b c d one two three four = tt
