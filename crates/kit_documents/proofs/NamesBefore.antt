-- The names of the cases before one, in a set.
use denote.Ref.{Bor}
use Rattle.std.specs.BTreeSet.{BTreeSet, IsEmpty, Updates}
use Rattle.std.specs.Cmp.Lexicographic.{slice_cmp}
use Rattle.std.specs.List.{list_any}
use Rattle.std.specs.Ordering.{nat_cmp}
use Rattle.std.specs.Str.{bytes_eq}
use Rattle.std.proofs.Common.{◌≡◌, ℕ, ◌+◌, Bool, true, false, ◌||◌, cond, List, [], ◌∷◌, ◌++◌, refl, sym, ap, ◌∙◌}
use Rattle.std.proofs.Math.Bool.{or-false}
use Rattle.std.proofs.lemmas.Bool.Decides.{same_from_decides}
use Rattle.std.proofs.lemmas.List.Folds.{list_any-append}
use Rattle.std.proofs.lemmas.Map.Text.{is_eq-slice_cmp}
use Rattle.std.proofs.lemmas.Slice.Eq.{bytes_eq-Decides}
use Rattle.toml.specs.Data.{Data, same_key}
use Rattle.kit_documents.specs.Cases.{case_name}
use Rattle.kit_documents.specs.NameSets.{HasNames}

-- two names are the same either way round
same-turned : (a b : List ℕ) → same_key a b ≡ same_key b a
same-turned a b =
    is_eq-slice_cmp a b
    ∙ same_from_decides (bytes_eq a b) (bytes_eq b a) (bytes_eq-Decides a b) (λ is. sym ((bytes_eq-Decides b a).0 is), λ same. (bytes_eq-Decides b a).1 (sym same))
    ∙ sym (is_eq-slice_cmp b a)

or_last : (a b : Bool) → cond a true b ≡ (b || a)
or_last true true = refl
or_last true false = refl
or_last false true = refl
or_last false false = refl

-- with the name of one case more
pub names-more : (names more : BTreeSet (Bor (List ℕ))) (said : Bor (List ℕ)) (cases : List Data) (d : Data) → said.now ≡ case_name d
    → Updates (λ a b. slice_cmp nat_cmp a.now b.now) names more said true
    → HasNames names cases → HasNames more (cases ++ d ∷ [])
names-more names more said cases d says updates before = λ text.
    let test = λ (other : Data). same_key text (case_name other) in
    let here : same_key said.now text ≡ test d = same-turned said.now text ∙ ap (λ n. same_key text n) says in
    updates.0 (record { ref_ptr = (0, 0); now = text })
    ∙ or_last (same_key said.now text) _
    ∙ ap (λ b. b || same_key said.now text) (before text)
    ∙ ap (λ b. list_any test cases || b) here
    ∙ ap (λ b. list_any test cases || b) (sym (or-false (test d)))
    ∙ sym (list_any-append test cases (d ∷ []))
