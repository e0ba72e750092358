-- A case is marked if and only if a transcript belongs to it.
use Rattle.std.specs.List.{count_by, range_with_len}
use Rattle.std.proofs.Common.{◌≡◌, ◌≢◌, ℕ, ◌+◌, ◌<◌, ◌==◌, Bool, cond, true, false, ◌||◌, List, [], ◌∷◌, ◌++◌, length, get_or, map, replicate, set, refl, sym, ap, ◌∙◌, arith}
use Rattle.std.proofs.Math.Bool.{or-false, or-true}
use Rattle.std.proofs.lemmas.Bool.Decides.{Decides-eqb}
use Rattle.std.proofs.lemmas.List.{append-nil, drop_all, get_or-replicate, get_or-set_other, get_or-set_same, length-replicate, length-set}
use Rattle.std.proofs.lemmas.List.Folds.{fold-map}
use Rattle.std.proofs.lemmas.List.FromFn.{get_or-map-range_with_len, length-map-range_with_len}
use Rattle.std.proofs.lemmas.List.Prefix.{front_from_reads}
use Rattle.kit_documents.specs.declared.transcripts.told.Told.{Told}
use Rattle.canhold_commands.specs.Judgements.{has_one}
use Rattle.canhold_commands.specs.Marks.{with_marks}

length-marked : (transcripts : List Told) (marks : List Bool) → length (with_marks transcripts marks) ≡ length marks
length-marked [] marks = refl
length-marked (told ∷ transcripts) marks = length-marked transcripts (set marks told.case true) ∙ length-set marks told.case true

true_or_false : {P : Type 0} (b : Bool) → (b ≡ true → P) → (b ≡ false → P) → P
true_or_false true here other = here refl
true_or_false false here other = other refl

-- one more mark
set-mark : (marks : List Bool) (at k : ℕ) (rest : Bool) → k < length marks → (get_or (set marks at true) k false || rest) ≡ (get_or marks k false || ((at == k) || rest))
set-mark marks at k rest within =
    let other : (at == k) ≡ false → (get_or (set marks at true) k false || rest) ≡ (get_or marks k false || ((at == k) || rest)) = λ apart.
    let differ : k ≢ at = λ same. let here : (at == k) ≡ true = (Decides-eqb at k).1 (sym same) in cc in
    ap (λ b. b || rest) (get_or-set_other marks at k true false differ) ∙ ap (λ b. get_or marks k false || (b || rest)) (sym apart) in
    let here : (at == k) ≡ true → (get_or (set marks at true) k false || rest) ≡ (get_or marks k false || ((at == k) || rest)) = λ is.
    let same : at ≡ k = (Decides-eqb at k).0 is in
    ap (λ i. get_or (set marks i true) k false || rest) same ∙ ap (λ b. b || rest) (get_or-set_same marks k true false within)
    ∙ sym (or-true (get_or marks k false)) ∙ ap (λ b. get_or marks k false || (b || rest)) (sym is) in
    true_or_false (at == k) here other

marked-at : (transcripts : List Told) (marks : List Bool) (k : ℕ) → k < length marks → get_or (with_marks transcripts marks) k false ≡ (get_or marks k false || has_one transcripts k)
marked-at [] marks k within = sym (or-false (get_or marks k false))
marked-at (told ∷ transcripts) marks k within =
    let longer : k < length (set marks told.case true) = omega (arith, length-set marks told.case true) in
    marked-at transcripts (set marks told.case true) k longer ∙ set-mark marks told.case k (has_one transcripts k) within

-- of marks none of which was set
pub marked-all : (transcripts : List Told) (n : ℕ) → with_marks transcripts (replicate n false) ≡ map (has_one transcripts) (range_with_len 0 n)
marked-all transcripts n =
    let marks = with_marks transcripts (replicate n false) in
    let places = map (has_one transcripts) (range_with_len 0 n) in
    let long : length marks ≡ n = length-marked transcripts (replicate n false) ∙ length-replicate n false in
    let long_places : length places ≡ n = length-map-range_with_len (has_one transcripts) 0 n in
    front_from_reads false marks places (omega (arith, long, long_places)) (λ k within.
    let few : k < n = omega (arith, within, long_places) in
    marked-at transcripts (replicate n false) k (omega (arith, few, length-replicate n false))
    ∙ ap (λ b. b || has_one transcripts k) (get_or-replicate n k false false few)
    ∙ sym (get_or-map-range_with_len (has_one transcripts) 0 n k k false few (omega arith)))
    ∙ ap (λ rest. places ++ rest) (drop_all (length places) marks (omega (arith, long, long_places)))
    ∙ append-nil places

pub count-map : {A B : Type 0} (test : B → Bool) (f : A → B) (xs : List A) → count_by test (map f xs) ≡ count_by (λ x. test (f x)) xs
count-map test f xs = fold-map (λ n y. n + cond (test y) 1 0) f 0 xs
