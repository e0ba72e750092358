-- Which elements a list has, place by place.
use Rattle.std.proofs.Common.{◌≡◌, ℕ, zero, suc, ◌⊎◌, Bool, true, false, cond, Some, List, [], ◌∷◌, ◌++◌, map, take, refl, sym, ◌∙◌, ap, subst, inl, inr}
use Rattle.std.specs.Prelude.{slice_get, filter, option_map}
use Rattle.std.proofs.lemmas.Bool.{cond-true}
use Rattle.std.specs.List.Sorted.{IsPermutation}
use Rattle.std.proofs.lemmas.List.Sorted.{Contains-permutation}
use Rattle.std.proofs.lemmas.Option.{get_or_from_slice_get, slice_get-get_or, slice_get-map, slice_get_within}

-- x is in the list
abbrev pub Stands : {A : Type 0} → List A → A → Type 0
Stands xs x = (n : ℕ) × (slice_get xs n ≡ Some x)

pub stands-none : {A : Type 0} (x : A) → Stands [] x → ⊥
stands-none x s = let e = s.1 in cc

-- ---- no element

pub none-taken : {A : Type 0} (xs : List A) → take 0 xs ≡ []
none-taken [] = refl
none-taken (x ∷ xs) = refl

-- ---- one element in front

pub stands-here : {A : Type 0} (x : A) (xs : List A) → Stands (x ∷ xs) x
stands-here x xs = (0, refl)

pub stands-later : {A : Type 0} (y : A) (xs : List A) (x : A) → Stands xs x → Stands (y ∷ xs) x
stands-later y xs x s = (suc s.0, s.1)

pub stands-cases : {A : Type 0} (y : A) (xs : List A) (x : A) → Stands (y ∷ xs) x → (y ≡ x) ⊎ Stands xs x
stands-cases y xs x (zero, e) = inl (let same : Some y ≡ Some x = e in cc)
stands-cases y xs x (suc n, e) = inr (n, e)

-- ---- one element in between

pub stands-middle : {A : Type 0} (xs : List A) (y : A) (ys : List A) → Stands (xs ++ y ∷ ys) y
stands-middle [] y ys = stands-here y ys
stands-middle (z ∷ xs) y ys = stands-later z (xs ++ y ∷ ys) y (stands-middle xs y ys)

pub stands-among : {A : Type 0} (xs : List A) (y : A) (ys : List A) (x : A) → Stands (xs ++ ys) x → Stands (xs ++ y ∷ ys) x
stands-among [] y ys x s = stands-later y ys x s
stands-among (z ∷ xs) y ys x s =
    elim (stands-cases z (xs ++ ys) x s) [ inl e ↦ (0, ap Some e) | inr later ↦ stands-later z (xs ++ y ∷ ys) x (stands-among xs y ys x later) ]

-- ---- two lists, one after the other

pub stands-front : {A : Type 0} (a b : List A) (x : A) → Stands a x → Stands (a ++ b) x
stands-front [] b x s = let e = s.1 in cc
stands-front (y ∷ a) b x s = elim (stands-cases y a x s) [
  | inl same ↦ subst (λ z. Stands (y ∷ (a ++ b)) z) same (stands-here y (a ++ b))
  | inr later ↦ stands-later y (a ++ b) x (stands-front a b x later)
]

pub stands-back : {A : Type 0} (a b : List A) (x : A) → Stands b x → Stands (a ++ b) x
stands-back [] b x s = s
stands-back (y ∷ a) b x s = stands-later y (a ++ b) x (stands-back a b x s)

pub stands-either : {A : Type 0} (a b : List A) (x : A) → Stands (a ++ b) x → Stands a x ⊎ Stands b x
stands-either [] b x s = inr s
stands-either (y ∷ a) b x s = elim (stands-cases y (a ++ b) x s) [
  | inl same ↦ inl (subst (λ z. Stands (y ∷ a) z) same (stands-here y a))
  | inr later ↦ elim (stands-either a b x later) [ inl first ↦ inl (stands-later y a x first) | inr second ↦ inr second ]
]

-- ---- elements that pass a test

module _ {A : Type 0} (test : A → Bool) where
  passed-cases : (y : A) (xs : List A) (x : A) (b : Bool) → test y ≡ b → Stands (cond b (y ∷ filter test xs) (filter test xs)) x →
      ((y ≡ x) × (test y ≡ true)) ⊎ Stands (filter test xs) x
  passed-cases y xs x true e s = elim (stands-cases y (filter test xs) x s) [ inl same ↦ inl (same, e) | inr later ↦ inr later ]
  passed-cases y xs x false e s = inr s

  pub filter-stands : (xs : List A) (x : A) → Stands (filter test xs) x → Stands xs x × (test x ≡ true)
  filter-stands [] x s = absurd (stands-none x s)
  filter-stands (y ∷ xs) x s =
      elim (passed-cases y xs x (test y) refl s) [
        | inl here ↦ ((0, ap Some here.0), sym (ap test here.0) ∙ here.1)
        | inr later ↦ let there = filter-stands xs x later in (stands-later y xs x there.0, there.1)
      ]

  passed-later : (b : Bool) (y : A) (xs : List A) (x : A) → Stands xs x → Stands (cond b (y ∷ xs) xs) x
  passed-later true y xs x s = stands-later y xs x s
  passed-later false y xs x s = s

  pub stands-filter : (xs : List A) (x : A) → Stands xs x → test x ≡ true → Stands (filter test xs) x
  stands-filter [] x s passes = absurd (stands-none x s)
  stands-filter (y ∷ xs) x s passes =
      elim (stands-cases y xs x s) [
        | inl same ↦ (0, ap (λ l. slice_get l 0) (cond-true (test y) (y ∷ filter test xs) (filter test xs) (ap test same ∙ passes)) ∙ ap Some same)
        | inr later ↦ passed-later (test y) y (filter test xs) x (stands-filter xs x later passes)
      ]

-- ---- what is made of each element

module _ {A B : Type 0} (f : A → B) where
  pub stands-map : (xs : List A) (x : A) → Stands xs x → Stands (map f xs) (f x)
  stands-map xs x s = (s.0, slice_get-map f xs s.0 ∙ ap (option_map f) s.1)

  pub map-stands : (xs : List A) (y : B) → Stands (map f xs) y → (x : A) × Stands xs x × (f x ≡ y)
  map-stands [] y s = absurd (stands-none y s)
  map-stands (x ∷ xs) y s =
      elim (stands-cases (f x) (map f xs) y s) [
        | inl same ↦ (x, stands-here x xs, same)
        | inr later ↦ let there = map-stands xs y later in (there.0, stands-later x xs there.0 there.1, there.2)
      ]

-- ---- the same elements in another order

pub stands-permuted : {A : Type 0} (xs ys : List A) (x : A) → IsPermutation xs ys → Stands xs x → Stands ys x
stands-permuted xs ys x moved s =
    let there = Contains-permutation xs ys x moved (s.0, slice_get_within xs s.0 x s.1, get_or_from_slice_get xs s.0 x x s.1) in
    (there.0, slice_get-get_or ys there.0 x there.1 ∙ ap Some there.2)
