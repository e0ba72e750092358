-- What a walk along rising hits finds.
use Rattle.std.specs.List.{list_any, slice_get}
use Rattle.std.proofs.Common.{◌≡◌, ℕ, ◌<◌, ◌≤◌, ◌⊎◌, Bool, true, false, ◌||◌, List, [], ◌∷◌, Option, Some, None, length, get_or, refl, sym, ◌∙◌, ap, subst, inl, inr, arith}
use Rattle.std.proofs.Math.Bool.{or-false}
use Rattle.std.proofs.lemmas.Bool.{cases_order}
use Rattle.std.proofs.lemmas.Bool.Decides.{nat_tests}
use Rattle.std.proofs.lemmas.List.Folds.{list_any_none}
use Rattle.std.proofs.lemmas.Option.{slice_get-get_or, get_or_from_slice_get}
use Rattle.can_terms.specs.declared.hit.Hit.{Hit}
use Rattle.can_terms.specs.declared.hit.Hit.TheVariants.{At, In, View}
use Rattle.can_bus.specs.declared.moment.Attempt.{Attempt}
use Rattle.can_terms.specs.Hits.{is_above}
use Rattle.can_bus.specs.Run.{hits_wire, hits_view}
use Rattle.can_bus.specs.Walks.{is_hit, HitsRise, AreBelow}
use Rattle.can_bus.proofs.HitOrder.{above-transitive, above-other}

-- nothing is passed at first
pub below_none : (hits : List Hit) (q : Hit) → AreBelow hits 0 q
below_none hits q n before h e = absurd (omega arith)

-- what lies below a hit lies below each that is above it
pub below_above : (hits : List Hit) (place : ℕ) (q r : Hit) → is_above r q ≡ true → AreBelow hits place q → AreBelow hits place r
below_above hits place q r above below n before h e = above-transitive r q before above (below n before h e)

-- all hits are passed
pub reach_none : (hits : List Hit) (place : ℕ) (q : Hit) → AreBelow hits place q → length hits ≤ place → false ≡ list_any (is_hit q) hits
reach_none hits place q below end =
    sym (list_any_none (is_hit q) hits (λ k d within.
    above-other q (get_or hits k d) (below k (get_or hits k d) (omega arith) (slice_get-get_or hits k d within))))

not_same : (q h : Hit) → is_above h q ≡ true → is_hit q h ≡ false
not_same (At s) (At t) e = grind (arith, nat_tests)
not_same (At s) (In n o) e = refl
not_same (At s) (View t p) e = refl
not_same (In n o) (At t) e = refl
not_same (In n o) (In m r) e = grind (arith, nat_tests)
not_same (In n o) (View t p) e = refl
not_same (View t p) (At s) e = refl
not_same (View t p) (In n o) e = refl
not_same (View t p) (View s q) e = grind (arith, nat_tests)

-- the first that isn't passed lies above it
pub reach_past : (hits : List Hit) (place : ℕ) (q d : Hit) → HitsRise hits → AreBelow hits place q → place < length hits → is_above (get_or hits place d) q ≡ true →
    false ≡ list_any (is_hit q) hits
reach_past hits place q d rising below within above =
    sym (list_any_none (is_hit q) hits (λ k e inside. other k e inside))
  where
    other : (k : ℕ) (e : Hit) → k < length hits → is_hit q (get_or hits k e) ≡ false
    other k e inside =
        let here : slice_get hits k ≡ Some (get_or hits k e) = slice_get-get_or hits k e inside in
        let first : slice_get hits place ≡ Some (get_or hits place d) = slice_get-get_or hits place d within in
        elim (cases_order k place) [
          | inl same ↦
              let at : get_or hits place d ≡ get_or hits k e =
              get_or_from_slice_get hits place (get_or hits k e) d (ap (slice_get hits) (sym same) ∙ here) in
              not_same q (get_or hits k e) (subst (λ h. is_above h q ≡ true) at above)
          | inr apart ↦ elim apart [
            | inl less ↦ above-other q (get_or hits k e) (below k (get_or hits k e) less here)
            | inr more ↦ not_same q (get_or hits k e)
                (above-transitive (get_or hits k e) (get_or hits place d) q (rising place k (get_or hits place d) (get_or hits k e) more first here) above)
          ]
        ]

-- tests that agree on each element
list_any_alike : {X : Type 0} (p q : X → Bool) → ((x : X) → p x ≡ q x) → (xs : List X) → list_any p xs ≡ list_any q xs
list_any_alike p q h [] = refl
list_any_alike p q h (x ∷ xs) = ap (λ b. b || list_any p xs) (h x) ∙ ap (λ b. q x || b) (list_any_alike p q h xs)

or_swap : (a b c d : Bool) → ((a || b) || (c || d)) ≡ ((a || c) || (b || d))
or_swap true b c d = refl
or_swap false true true d = refl
or_swap false true false d = refl
or_swap false false c d = refl

list_any-or : {X : Type 0} (p q : X → Bool) (xs : List X) → list_any (λ x. p x || q x) xs ≡ (list_any p xs || list_any q xs)
list_any-or p q [] = refl
list_any-or p q (x ∷ xs) = ap (λ b. (p x || q x) || b) (list_any-or p q xs) ∙ or_swap (p x) (q x) (list_any p xs) (list_any q xs)

-- what inverts the view of a port
pub view_found : (time port : ℕ) (hits : List Hit) → list_any (is_hit (View time port)) hits ≡ list_any (hits_view time port) hits
view_found time port hits = list_any_alike (is_hit (View time port)) (hits_view time port) alike hits
  where
    alike : (h : Hit) → is_hit (View time port) h ≡ hits_view time port h
    alike (At t) = refl
    alike (In n o) = refl
    alike (View t p) = refl

-- what inverts the wired level
pub wire_found : (time : ℕ) (hits : List Hit) → list_any (is_hit (At time)) hits ≡ list_any (hits_wire time None) hits
wire_found time hits = list_any_alike (is_hit (At time)) (hits_wire time None) alike hits
  where
    alike : (h : Hit) → is_hit (At time) h ≡ hits_wire time None h
    alike (At t) = refl
    alike (In n o) = refl
    alike (View t p) = refl

pub attempt_found : (time : ℕ) (a : Attempt) (hits : List Hit) →
    (list_any (is_hit (At time)) hits || list_any (is_hit (In a.number a.offset)) hits) ≡ list_any (hits_wire time (Some a)) hits
attempt_found time a hits =
    sym (list_any-or (is_hit (At time)) (is_hit (In a.number a.offset)) hits)
    ∙ list_any_alike (λ h. is_hit (At time) h || is_hit (In a.number a.offset) h) (hits_wire time (Some a)) alike hits
  where
    alike : (h : Hit) → (is_hit (At time) h || is_hit (In a.number a.offset) h) ≡ hits_wire time (Some a) h
    alike (At t) = or-false (is_hit (At time) (At t))
    alike (In n o) = refl
    alike (View t p) = refl

-- both together, as the latest attempt is
pub wire_answer : (time : ℕ) (latest : Option Attempt) (hits : List Hit) (t b : Bool) → t ≡ list_any (is_hit (At time)) hits →
    ((latest ≡ None) × (b ≡ false)) ⊎ ((a : Attempt) × (latest ≡ Some a) × (b ≡ list_any (is_hit (In a.number a.offset)) hits)) →
    (t || b) ≡ list_any (hits_wire time latest) hits
wire_answer time latest hits t b e (inl h) =
    ap (λ v. t || v) h.1 ∙ or-false t ∙ e ∙ wire_found time hits ∙ ap (λ l. list_any (hits_wire time l) hits) (sym h.0)
wire_answer time latest hits t b e (inr (a, is, found)) =
    ap (λ v. t || v) found ∙ ap (λ v. v || list_any (is_hit (In a.number a.offset)) hits) e ∙ attempt_found time a hits
    ∙ ap (λ l. list_any (hits_wire time l) hits) (sym is)

pub true_or : (t b : Bool) → t ≡ true → t ≡ (t || b)
true_or true b e = refl
true_or false b e = cc

pub false_or : (t b : Bool) → t ≡ false → b ≡ (t || b)
false_or true b e = cc
false_or false b e = refl
