-- Lists, pair by pair and place by place.
use Rattle.std.proofs.Common.{◌≡◌, ℕ, zero, suc, ◌+◌, ◌<◌, ◌⊎◌, Some, None, List, [], ◌∷◌, ◌++◌, length, get_or, map, sym, ◌∙◌, ap, subst, inl, inr, arith}
use Rattle.std.specs.Prelude.{slice_get}
use Rattle.std.specs.List.{range_with_len}
use Rattle.std.proofs.lemmas.Bool.{cases_lt}
use Rattle.std.proofs.lemmas.Option.{slice_get-get_or}
use Rattle.document_values.specs.Values.{ArePaired}

-- one more on both sides
pub paired-push : {A B : Type 0} (R : A → B → Type 0) (xs : List A) (ys : List B) (x : A) (y : B) → ArePaired R xs ys → R x y → ArePaired R (xs ++ x ∷ []) (ys ++ y ∷ [])
paired-push R [] [] x y p r = (r, tt)
paired-push R [] (z ∷ ys) x y p r = absurd p
paired-push R (w ∷ xs) [] x y p r = absurd p
paired-push R (w ∷ xs) (z ∷ ys) x y p r = (p.0, paired-push R xs ys x y p.1 r)

-- the element at a place of a list that follows another
pub at-either : {A : Type 0} (xs ys : List A) (n : ℕ) (a : A) → slice_get (xs ++ ys) n ≡ Some a →
    ((n < length xs) × (slice_get xs n ≡ Some a)) ⊎ ((k : ℕ) × (n ≡ length xs + k) × (slice_get ys k ≡ Some a))
at-either [] ys n a e = inr (n, omega arith, e)
at-either (x ∷ xs) ys zero a e = inl (omega arith, e)
at-either (x ∷ xs) ys (suc n) a e = elim (at-either xs ys n a e) [
  | inl early ↦ inl (omega (arith, early.0), early.1)
  | inr late ↦ inr (late.0, omega (arith, late.1), late.2)
]

-- the element at a place of numbers that go up by one
pub range-at : {A : Type 0} (f : ℕ → A) (from count n : ℕ) (a : A) → slice_get (map f (range_with_len from count)) n ≡ Some a → f (from + n) ≡ a
range-at f from zero n a e = absurd (let h : None ≡ Some a = e in cc)
range-at f from (suc count) zero a e =
    let same : from + 0 ≡ from = omega arith in
    ap f same ∙ (let h : Some (f from) ≡ Some a = e in cc)
range-at f from (suc count) (suc n) a e =
    let same : from + suc n ≡ from + 1 + n = omega arith in
    ap f same ∙ range-at f (from + 1) count n a e

-- what is true of the elements before a place, and of the one there, is true of those before the next place
pub holds-next : {A : Type 0} (P : A → Type 0) (xs : List A) (place : ℕ) (x : A) → place < length xs → x ≡ get_or xs place x → P x →
    ((n : ℕ) (y : A) → n < place → slice_get xs n ≡ Some y → P y) → (n : ℕ) (y : A) → n < place + 1 → slice_get xs n ≡ Some y → P y
holds-next P xs place x within is here before n y less e = elim (cases_lt n place) [
  | inl early ↦ before n y early e
  | inr late ↦
      let at : n ≡ place = omega (arith, less, late) in
      let there : slice_get xs place ≡ Some x = slice_get-get_or xs place x within ∙ ap Some (sym is) in
      let same : Some x ≡ Some y = sym there ∙ ap (slice_get xs) (sym at) ∙ e in
      let one : x ≡ y = cc in
      subst P one here
]
