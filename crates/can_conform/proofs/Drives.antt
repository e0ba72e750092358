-- The levels of a transcript, which grow with the run.
use Rattle.std.specs.Prelude.{slice_get, option_to_list}
use Rattle.std.proofs.Common.{◌≡◌, ℕ, zero, suc, ◌+◌, ◌<◌, ◌≤◌, List, [], ◌∷◌, ◌++◌, Option, Some, None, length, length-append, refl, sym, ap, ◌∙◌, inl, inr, arith}
use Rattle.std.proofs.lemmas.Bool.{cases_order}
use Rattle.std.proofs.lemmas.Option.{slice_get_past}
use Rattle.can_frame.specs.declared.level.Level.{Level}
use Rattle.can_terms.specs.declared.script.Script.{Script}
use Rattle.can_conform.specs.Runs.{moment_at}
use Rattle.can_conform.proofs.RunLemmas.{level-past, level-within}

-- an element before the last one
get-before : {A : Type 0} (xs ys : List A) (n : ℕ) → n < length xs → slice_get (xs ++ ys) n ≡ slice_get xs n
get-before [] ys n within = absurd (omega arith)
get-before (x ∷ xs) ys zero within = refl
get-before (x ∷ xs) ys (suc n) within = get-before xs ys n (omega arith)

-- and the last one
get-last : {A : Type 0} (xs : List A) (x : A) → slice_get (xs ++ x ∷ []) (length xs) ≡ Some x
get-last [] x = refl
get-last (y ∷ xs) x = get-last xs x

-- the first n levels of the run
pub record AreDriven (s : Script) (xs : List Level) (n : ℕ) : Type 0 where
  pub size : length xs ≡ n
  pub each : (t : ℕ) → t < n → slice_get xs t ≡ (moment_at s t).drove

pub driven-none : (s : Script) → AreDriven s [] 0
driven-none s = record { size = refl; each = λ t h. absurd (omega arith) }

one-more : (s : Script) (xs : List Level) (n : ℕ) (x : Level) → Some x ≡ (moment_at s n).drove → AreDriven s xs n → AreDriven s (xs ++ x ∷ []) (n + 1)
one-more s xs n x is before = record {
  size = length-append xs (x ∷ []) ∙ ap (λ k. k + 1) before.size;
  each = λ t h. elim (cases_order t n) [
    | inl same ↦
        let here : t ≡ length xs = omega (arith, before.size) in
        ap (slice_get (xs ++ x ∷ [])) here ∙ get-last xs x ∙ is ∙ ap (λ k. (moment_at s k).drove) (sym same)
    | inr apart ↦ elim apart [
      | inl less ↦ get-before xs (x ∷ []) t (omega (arith, before.size)) ∙ before.each t less
      | inr more ↦ absurd (omega arith)
    ]
  ];
}

-- the level of the next bit time of the case
pub driven-next : (s : Script) (xs : List Level) (n : ℕ) (o : Option Level) → o ≡ (moment_at s n).drove → n < length s.tester.items → AreDriven s xs n → AreDriven s (xs ++ option_to_list o) (n + 1)
driven-next s xs n (Some x) is within before = one-more s xs n x is before
driven-next s xs n None is within before =
    let e : None ≡ Some (level-within s n within).0 = is ∙ (level-within s n within).1 in absurd (let k : ⊥ = cc in k)

-- all of them
pub driven-all : (s : Script) (xs : List Level) (n : ℕ) → length s.tester.items ≡ n → AreDriven s xs n → (t : ℕ) → slice_get xs t ≡ (moment_at s t).drove
driven-all s xs n size driven t = elim (cases_order t n) [
  | inl same ↦ past (omega arith)
  | inr apart ↦ elim apart [
    | inl less ↦ driven.each t less
    | inr more ↦ past (omega arith)
  ]
]
  where
    past : n ≤ t → slice_get xs t ≡ (moment_at s t).drove
    past late = slice_get_past xs t (omega (arith, driven.size)) ∙ sym (level-past s t (omega arith))
