-- The loops over the ports.
use Rattle.std.specs.List.{list_any}
use Rattle.std.proofs.Common.{◌≡◌, ℕ, zero, suc, ◌+◌, ◌<◌, ◌≤◌, List, [], ◌∷◌, ◌++◌, length, map, take, drop, get_or, set, refl, ap, sym, ◌∙◌, arith, add-one, zero-add}
use Rattle.std.proofs.lemmas.List.{take_at}
use Rattle.can_frame.specs.declared.level.Level.{Level}
use Rattle.can_node.specs.Ports.{PortState, port_step}
use Rattle.can_terms.specs.declared.hit.Hit.{Hit}
use Rattle.can_bus.specs.Run.{hits_view, inverted_if, all_sampled}

-- what is lent and comes back as long is in its place
pub all_back : {X A : Type 0} (S : X → A) (new items : List X) (len : ℕ) → length new ≡ len → map S (take len (new ++ drop (length new) items)) ≡ map S new
all_back S new items len e = ap (map S) (take_at new (drop (length new) items) len e)

pub length_back : {X : Type 0} (new items : List X) (len : ℕ) → length new ≡ len → length (take len (new ++ drop (length new) items)) ≡ length new
length_back new items len e = ap length (take_at new (drop (length new) items) len e)

-- the first i elements, changed each by its number, of which the first is k
abbrev pub front_at : {A : Type 0} → (ℕ → A → A) → ℕ → ℕ → List A → List A
front_at F k zero xs = xs
front_at F k (suc i) [] = []
front_at F k (suc i) (x ∷ xs) = F k x ∷ front_at F (k + 1) i xs

front_at_step : {X A : Type 0} (S : X → A) (F : ℕ → A → A) (k i : ℕ) (xs : List X) (ps : List A) (y d : X) → i < length xs →
    map S xs ≡ front_at F k i ps → S y ≡ F (k + i) (S (get_or xs i d)) → map S (set xs i y) ≡ front_at F k (suc i) ps
front_at_step S F k i [] ps y d h e f = absurd (omega arith)
front_at_step S F k zero (x ∷ xs) [] y d h e f = cc
front_at_step S F k zero (x ∷ xs) (p ∷ ps) y d h e f = let z : k + 0 ≡ k = omega arith in let g : F (k + 0) (S x) ≡ F k (S x) = ap (λ n. F n (S x)) z in cc
front_at_step S F k (suc i) (x ∷ xs) [] y d h e f = cc
front_at_step S F k (suc i) (x ∷ xs) (p ∷ ps) y d h e f =
    let tl : map S xs ≡ front_at F (k + 1) i ps = cc in
    let hd : S x ≡ F k p = cc in
    let z : k + suc i ≡ (k + 1) + i = omega arith in
    let g : S y ≡ F ((k + 1) + i) (S (get_or xs i d)) = f ∙ ap (λ n. F n (S (get_or xs i d))) z in
    let ih : map S (set xs i y) ≡ front_at F (k + 1) (suc i) ps = front_at_step S F (k + 1) i xs ps y d (omega arith) tl g in cc

-- one element more
pub front_at_more : {X A : Type 0} (S : X → A) (F : ℕ → A → A) (i : ℕ) (xs : List X) (ps : List A) (y d : X) → i < length xs →
    map S xs ≡ front_at F 0 i ps → S y ≡ F i (S (get_or xs i d)) → map S (set xs i y) ≡ front_at F 0 (i + 1) ps
front_at_more S F i xs ps y d h e f = rw add-one (front_at_step S F 0 i xs ps y d h e (f ∙ ap (λ n. F n (S (get_or xs i d))) (sym (zero-add i))))

-- what a port of this number makes of the level
abbrev pub sampled : List Hit → ℕ → Level → ℕ → PortState → PortState
sampled hits time x number p = port_step p (inverted_if (list_any (hits_view time number) hits) x)

-- all of them
pub front_at_all : (hits : List Hit) (time : ℕ) (x : Level) (k i : ℕ) (ps : List PortState) → length ps ≤ i → front_at (sampled hits time x) k i ps ≡ all_sampled hits time x k ps
front_at_all hits time x k zero [] h = refl
front_at_all hits time x k (suc i) [] h = refl
front_at_all hits time x k zero (p ∷ ps) h = absurd (omega arith)
front_at_all hits time x k (suc i) (p ∷ ps) h = ap (λ qs. sampled hits time x k p ∷ qs) (front_at_all hits time x (k + 1) i ps (omega arith))

-- the same change of all of them
pub front_at_each : {A : Type 0} (f : A → A) (k i : ℕ) (xs : List A) → length xs ≤ i → front_at (λ n x. f x) k i xs ≡ map f xs
front_at_each f k zero [] h = refl
front_at_each f k (suc i) [] h = refl
front_at_each f k zero (x ∷ xs) h = absurd (omega arith)
front_at_each f k (suc i) (x ∷ xs) h = ap (λ ys. f x ∷ ys) (front_at_each f (k + 1) i xs (omega arith))
