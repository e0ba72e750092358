-- Whether a frame has an arbitration field, as a test, and lists that are filtered by such tests.
use Rattle.std.specs.Prelude.{filter, slice_get, take, ◌&&◌}
use Rattle.std.proofs.Common.{◌≡◌, ℕ, zero, suc, Bool, true, false, cond, Some, None, List, [], ◌∷◌, length, map, refl, sym, ◌∙◌, ap, subst}
use Rattle.std.proofs.lemmas.Bool.{cond-true}
use Rattle.can_frame.specs.declared.level.Level.{Level}
use Rattle.can_frame.specs.declared.level.Level.TheVariants.{Dominant, Recessive}
use Rattle.can_frame.specs.Levels.{same}
use Rattle.can_frame.specs.Parts.{Parts}
use Rattle.can_frame.specs.Arbitration.{arbitration_field}
use Rattle.can_node.specs.Ports.{same_field}
use Rattle.can_node.proofs.WaitingLemmas.{Shares-same_field, same_field-Shares}

abbrev pub same_levels : List Level → List Level → Bool
same_levels [] [] = true
same_levels [] (y ∷ b) = false
same_levels (x ∷ a) [] = false
same_levels (x ∷ a) (y ∷ b) = same x y && same_levels a b

same_levels-refl : (a : List Level) → same_levels a a ≡ true
same_levels-refl [] = refl
same_levels-refl (Dominant ∷ a) = same_levels-refl a
same_levels-refl (Recessive ∷ a) = same_levels-refl a

pub same_levels-is : (a b : List Level) → same_levels a b ≡ true → a ≡ b
same_levels-is [] [] e = refl
same_levels-is [] (y ∷ b) e = cc
same_levels-is (x ∷ a) [] e = cc
same_levels-is (Dominant ∷ a) (Dominant ∷ b) e = ap (λ l. Dominant ∷ l) (same_levels-is a b e)
same_levels-is (Recessive ∷ a) (Recessive ∷ b) e = ap (λ l. Recessive ∷ l) (same_levels-is a b e)
same_levels-is (Dominant ∷ a) (Recessive ∷ b) e = let h : false ≡ true = e in cc
same_levels-is (Recessive ∷ a) (Dominant ∷ b) e = let h : false ≡ true = e in cc

pub same_levels-from : (a b : List Level) → a ≡ b → same_levels a b ≡ true
same_levels-from a b e = subst (λ l. same_levels a l ≡ true) e (same_levels-refl a)

-- the frame has this field
abbrev pub has_field : List Level → Parts → Bool
has_field field f = same_levels field (arbitration_field f)

agree : (a b : Bool) → (a ≡ true → b ≡ true) → (b ≡ true → a ≡ true) → a ≡ b
agree true b to from = sym (to refl)
agree false true to from = from refl
agree false false to from = refl

-- of a frame's own field the test is that of two frames
pub field-tests : (field : List Level) (f g : Parts) → arbitration_field f ≡ field → same_field f g ≡ has_field field g
field-tests field f g e =
    agree (same_field f g) (has_field field g)
    (λ shares. same_levels-from field (arbitration_field g) (sym e ∙ same_field-Shares f g shares))
    (λ has. Shares-same_field f g (e ∙ same_levels-is field (arbitration_field g) has))

-- ---- filtered lists

pub filter-same : {A : Type 0} (test other : A → Bool) → ((x : A) → test x ≡ other x) → (xs : List A) → filter test xs ≡ filter other xs
filter-same test other same [] = refl
filter-same test other same (x ∷ xs) =
    ap (λ b. cond b (x ∷ filter test xs) (filter test xs)) (same x) ∙ ap (λ l. cond (other x) (x ∷ l) l) (filter-same test other same xs)

-- an element that passes comes after the number of those that pass before it
pub filter-place : {A : Type 0} (test : A → Bool) (xs : List A) (n : ℕ) (x : A) → slice_get xs n ≡ Some x → test x ≡ true → slice_get (filter test xs) (length (filter test (take n xs))) ≡ Some x
filter-place test [] n x at passes = absurd (let h : None ≡ Some x = at in cc)
filter-place test (y ∷ xs) zero x at passes =
    let one : y ≡ x = (let h : Some y ≡ Some x = at in cc) in
    ap (λ l. slice_get l 0) (cond-true (test y) (y ∷ filter test xs) (filter test xs) (ap test one ∙ passes)) ∙ at
filter-place test (y ∷ xs) (suc n) x at passes = behind (test y) (filter-place test xs n x at passes)
  where
    behind : (b : Bool) → slice_get (filter test xs) (length (filter test (take n xs))) ≡ Some x →
        slice_get (cond b (y ∷ filter test xs) (filter test xs)) (length (cond b (y ∷ filter test (take n xs)) (filter test (take n xs)))) ≡ Some x
    behind true there = there
    behind false there = there

-- how many pass of what is made of the first elements
pub filter-map_length : {A B : Type 0} (f : A → B) (test : B → Bool) (xs : List A) (n : ℕ) → length (filter test (take n (map f xs))) ≡ length (filter (λ x. test (f x)) (take n xs))
filter-map_length f test [] zero = refl
filter-map_length f test [] (suc n) = refl
filter-map_length f test (x ∷ xs) zero = refl
filter-map_length f test (x ∷ xs) (suc n) = longer (test (f x)) (filter-map_length f test xs n)
  where
    longer : (b : Bool) → length (filter test (take n (map f xs))) ≡ length (filter (λ y. test (f y)) (take n xs)) →
        length (cond b (f x ∷ filter test (take n (map f xs))) (filter test (take n (map f xs)))) ≡ length (cond b (x ∷ filter (λ y. test (f y)) (take n xs)) (filter (λ y. test (f y)) (take n xs)))
    longer true e = ap suc e
    longer false e = e
