-- Lists of timed things that grow at their end, bit time by bit time.
use Rattle.std.specs.Prelude.{slice_get, if◌then◌else◌, ◌⊎◌}
use Rattle.std.proofs.Common.{◌≡◌, ℕ, zero, suc, ◌+◌, ◌<◌, ◌≤◌, ◌==◌, true, false, List, [], ◌∷◌, ◌++◌, Option, Some, None, length, refl, sym, ap, ◌∙◌, inl, inr, arith, append-nil}
use Rattle.std.proofs.lemmas.Bool.{cases_order}
use Rattle.std.proofs.lemmas.Bool.Decides.{nat_tests}
use Rattle.std.proofs.lemmas.Option.{slice_get_within}
use Rattle.can_terms.specs.declared.timed.Timed.{Timed}
use Rattle.can_terms.specs.Cases.{AreRising, EndBefore}
use Rattle.can_conform.specs.Transcripts.{at_time, item_at, Tells}
use Rattle.can_conform.proofs.TimedLemmas.{item_at-past}

-- an element of a list with one more at its end
last-or-before : {A : Type 0} (xs : List A) (x y : A) (n : ℕ) → slice_get (xs ++ x ∷ []) n ≡ Some y → (slice_get xs n ≡ Some y) ⊎ ((n ≡ length xs) × (y ≡ x))
last-or-before [] x y zero at = let e : Some x ≡ Some y = at in inr (refl, cc)
last-or-before [] x y (suc n) at = let e : None ≡ Some y = at in cc
last-or-before (z ∷ xs) x y zero at = inl at
last-or-before (z ∷ xs) x y (suc n) at = elim (last-or-before xs x y n at) [
  | inl before ↦ inl before
  | inr last ↦ inr (ap suc last.0, last.1)
]

-- what is listed, with one more element at the end
item_at-more : {A : Type 0} (xs : List (Timed A)) (x : Timed A) (t : ℕ) → (item_at (xs ++ x ∷ []) t ≡ item_at xs t) ⊎ (x.time ≡ t)
item_at-more [] x t = elim (cases_order x.time t) [
  | inl same ↦ inr same
  | inr apart ↦
      let other : (x.time == t) ≡ false = elim apart [ inl less ↦ grind (arith, nat_tests) | inr more ↦ grind (arith, nat_tests) ] in
      inl (ap (λ b. if b then Some x.told else None) other)
]
item_at-more (y ∷ xs) x t = elim (item_at-more xs x t) [
  | inl same ↦ inl (ap (λ o. if y.time == t then Some y.told else o) same)
  | inr now ↦ inr now
]

item_at-last : {A : Type 0} (xs : List (Timed A)) (x : Timed A) (t : ℕ) → EndBefore xs t → x.time ≡ t → item_at (xs ++ x ∷ []) t ≡ Some x.told
item_at-last [] x t ends now =
    let here : (x.time == t) ≡ true = grind (arith, nat_tests) in
    ap (λ b. if b then Some x.told else None) here
item_at-last (y ∷ xs) x t ends now =
    let less : y.time < t = ends 0 y refl in
    let other : (y.time == t) ≡ false = grind (arith, nat_tests) in
    ap (λ b. if b then Some y.told else item_at (xs ++ x ∷ []) t) other ∙ item_at-last xs x t (λ n z at. ends (suc n) z at) now

-- the list has all elements before bit time n, and no others
pub record IsToldUpTo {A : Type 0} (at : ℕ → Option A) (xs : List (Timed A)) (n : ℕ) : Type 0 where
  pub rising : AreRising xs
  pub each : (t : ℕ) → t < n → item_at xs t ≡ at t
  pub end : EndBefore xs n

pub told-none : {A : Type 0} (at : ℕ → Option A) → IsToldUpTo at [] 0
told-none at = record {
  rising = λ m n x y h a b. let e : None ≡ Some x = a in cc;
  each = λ t h. absurd (omega arith);
  end = λ n x a. let e : None ≡ Some x = a in cc;
}

-- nothing comes in the next bit time
pub told-still : {A : Type 0} (at : ℕ → Option A) (xs : List (Timed A)) (n : ℕ) → at n ≡ None → IsToldUpTo at xs n → IsToldUpTo at xs (n + 1)
told-still at xs n none before = record {
  rising = before.rising;
  each = λ t h. elim (cases_order t n) [
    | inl same ↦ ap (item_at xs) same ∙ item_at-past xs n n before.end (omega arith) ∙ sym none ∙ ap at (sym same)
    | inr apart ↦ elim apart [
      | inl less ↦ before.each t less
      | inr more ↦ absurd (omega arith)
    ]
  ];
  end = λ m x a. let h : x.time < n = before.end m x a in omega arith;
}

-- something comes
pub told-more : {A : Type 0} (at : ℕ → Option A) (xs : List (Timed A)) (n : ℕ) (y : A) → at n ≡ Some y → IsToldUpTo at xs n →
    IsToldUpTo at (let x : Timed A = record { time = n; told = y } in xs ++ x ∷ []) (n + 1)
told-more {A} at xs n y some before =
    let x : Timed A = record { time = n; told = y } in
    record {
      rising = λ k m a b h to from. elim (last-or-before xs x b m from) [
        | inl inside ↦ elim (last-or-before xs x a k to) [
          | inl earlier ↦ before.rising k m a b h earlier inside
          | inr last ↦ let within : m < length xs = slice_get_within xs m b inside in absurd (omega (arith, last.0))
        ]
        | inr end ↦ elim (last-or-before xs x a k to) [
          | inl earlier ↦
              let less : a.time < n = before.end k a earlier in
              let time : b.time ≡ n = ap (λ (z : Timed A). z.time) end.1 in omega arith
          | inr last ↦ absurd (omega (arith, last.0, end.0))
        ]
      ];
      each = λ t h. elim (cases_order t n) [
        | inl same ↦ ap (item_at (xs ++ x ∷ [])) same ∙ item_at-last xs x n before.end refl ∙ sym some ∙ ap at (sym same)
        | inr apart ↦ elim apart [
          | inl less ↦ elim (item_at-more xs x t) [
            | inl kept ↦ kept ∙ before.each t less
            | inr now ↦ let e : n ≡ t = now in absurd (omega arith)
          ]
          | inr more ↦ absurd (omega arith)
        ]
      ];
      end = λ m z a. elim (last-or-before xs x z m a) [
        | inl inside ↦ let h : z.time < n = before.end m z inside in omega arith
        | inr last ↦ let e : z.time ≡ n = ap (λ (w : Timed A). w.time) last.1 in omega arith
      ];
    }

-- nothing comes from here on
pub told-all : {A : Type 0} (at : ℕ → Option A) (xs : List (Timed A)) (n : ℕ) → ((t : ℕ) → n ≤ t → at t ≡ None) → IsToldUpTo at xs n → Tells at xs
told-all at xs n none before = record {
  rising = before.rising;
  each = λ t. elim (cases_order t n) [
    | inl same ↦ item_at-past xs n t before.end (omega arith) ∙ sym (none t (omega arith))
    | inr apart ↦ elim apart [
      | inl less ↦ before.each t less
      | inr more ↦ item_at-past xs n t before.end (omega arith) ∙ sym (none t (omega arith))
    ]
  ];
}

-- one bit time more, whatever comes in it
pub told-next : {A : Type 0} (at : ℕ → Option A) (xs : List (Timed A)) (n : ℕ) (o : Option A) → o ≡ at n → IsToldUpTo at xs n → IsToldUpTo at (xs ++ at_time n o) (n + 1)
told-next at xs n None is before = rw append-nil (told-still at xs n (sym is) before)
told-next at xs n (Some y) is before = told-more at xs n y (sym is) before
