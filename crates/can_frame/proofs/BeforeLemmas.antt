-- The order of lists of levels: which of two is before the other.
use Rattle.std.proofs.Common.{◌≡◌, ◌≢◌, ℕ, suc, zero, ◌^◌, ◌<◌, List, [], ◌∷◌, ◌++◌, length, take, refl, sym, ◌∙◌, ap, arith, inl, inr}
use Rattle.std.specs.Prelude.{Some, slice_get, ◌⊎◌, ◌↔◌}
use Rattle.std.specs.declared.cmp.Ordering.{Ordering}
use Rattle.std.specs.declared.cmp.Ordering.TheVariants.{Less, Equal, Greater}
use Rattle.std.specs.Ordering.{ordering_reverse}
use Rattle.std.specs.Cmp.{IsTotalOrder, bool_cmp_total}
use Rattle.std.proofs.lemmas.Cmp.{tied_itself, on_total, lists_total}
use Rattle.can_frame.specs.declared.level.Level.{Level}
use Rattle.can_frame.specs.declared.level.Level.TheVariants.{Dominant, Recessive}
use Rattle.can_frame.specs.Levels.{is_recessive, number_from}
use Rattle.can_frame.specs.Arbitration.{Before, field_cmp}
use Rattle.can_frame.proofs.LevelLemmas.{number_from-split, number_from-lt}

-- `Before` as an induction: the first levels differ, or they are one and the others decide
data Lesser : List Level → List Level → Type 0 where
  here : {a b : List Level} → Lesser (Dominant ∷ a) (Recessive ∷ b)
  later : {x : Level} {a b : List Level} → Lesser a b → Lesser (x ∷ a) (x ∷ b)

pub Before-cons : (x : Level) (a b : List Level) → Before a b → Before (x ∷ a) (x ∷ b)
Before-cons x a b h = record { place = suc h.place; same = ap (λ t. x ∷ t) h.same; low = h.low; high = h.high }

Before-Lesser : {a b : List Level} → Lesser a b → Before a b
Before-Lesser here = record { place = 0; same = refl; low = refl; high = refl }
Before-Lesser (later {x} {a} {b} l) = Before-cons x a b (Before-Lesser l)

lesser_at : (a b : List Level) (p : ℕ) → take p a ≡ take p b → slice_get a p ≡ Some Dominant → slice_get b p ≡ Some Recessive → Lesser a b
lesser_at [] b p same low high = cc
lesser_at (x ∷ a) [] p same low high = cc
lesser_at (x ∷ a) (y ∷ b) zero same low high =
    let d : x ≡ Dominant = cc in
    let r : y ≡ Recessive = cc in
    rw (d, r) here
lesser_at (x ∷ a) (y ∷ b) (suc p) same low high =
    let head : y ≡ x = cc in
    let rest : take p a ≡ take p b = cc in
    rw head (later (lesser_at a b p rest low high))

Lesser-Before : (a b : List Level) → Before a b → Lesser a b
Lesser-Before a b h = lesser_at a b h.place h.same h.low h.high

Lesser-trans : {a b c : List Level} → Lesser a b → Lesser b c → Lesser a c
Lesser-trans here (later m) = here
Lesser-trans (later l) here = here
Lesser-trans (later l) (later m) = later (Lesser-trans l m)

pub Before-trans : (a b c : List Level) → Before a b → Before b c → Before a c
Before-trans a b c h k = Before-Lesser (Lesser-trans (Lesser-Before a b h) (Lesser-Before b c k))

Lesser-append : {a b : List Level} (x y : List Level) → Lesser a b → Lesser (a ++ x) (b ++ y)
Lesser-append x y here = here
Lesser-append x y (later l) = later (Lesser-append x y l)

-- what follows the place that decides has no say
pub Before-append : (a b x y : List Level) → Before a b → Before (a ++ x) (b ++ y)
Before-append a b x y h = Before-Lesser (Lesser-append x y (Lesser-Before a b h))

-- nor has a common front
pub Before-behind : (front a b : List Level) → Before a b → Before (front ++ a) (front ++ b)
Before-behind [] a b h = h
Before-behind (x ∷ front) a b h = Before-cons x (front ++ a) (front ++ b) (Before-behind front a b h)

-- ---- the order that `cmp` returns

pub field_cmp_total : IsTotalOrder field_cmp
field_cmp_total = lists_total (on_total is_recessive bool_cmp_total)

cmp_of_lesser : {a b : List Level} → Lesser a b → field_cmp a b ≡ Less
cmp_of_lesser here = refl
cmp_of_lesser (later {x = Dominant} l) = cmp_of_lesser l
cmp_of_lesser (later {x = Recessive} l) = cmp_of_lesser l

pub field_cmp-before : (a b : List Level) → Before a b → field_cmp a b ≡ Less
field_cmp-before a b h = cmp_of_lesser (Lesser-Before a b h)

pub field_cmp-same : (a b : List Level) → a ≡ b → field_cmp a b ≡ Equal
field_cmp-same a b e = ap (field_cmp a) (sym e) ∙ tied_itself field_cmp_total a

pub field_cmp-after : (a b : List Level) → Before b a → field_cmp a b ≡ Greater
field_cmp-after a b h = field_cmp_total.antisymm a b ∙ ap ordering_reverse (field_cmp-before b a h)

pub Before-differs : (a b : List Level) → Before a b → a ≢ b
Before-differs a b h e = let l = field_cmp-before a b h in let s = field_cmp-same a b e in cc

pub Before-one_way : (a b : List Level) → Before a b → Before b a → ⊥
Before-one_way a b h k = let l = field_cmp-before a b h in let g = field_cmp-after a b k in cc

-- ---- lists of which one is before the other, or which are one

abbrev pub Ranked : List Level → List Level → Type 0
Ranked a b = Before a b ⊎ ((a ≡ b) ⊎ Before b a)

Ranked-cons : (x : Level) (a b : List Level) → Ranked a b → Ranked (x ∷ a) (x ∷ b)
Ranked-cons x a b (inl h) = inl (Before-cons x a b h)
Ranked-cons x a b (inr (inl e)) = inr (inl (ap (λ t. x ∷ t) e))
Ranked-cons x a b (inr (inr h)) = inr (inr (Before-cons x b a h))

-- two lists of one length are ranked
pub ranked_as_long : (a b : List Level) → length a ≡ length b → Ranked a b
ranked_as_long [] [] e = inr (inl refl)
ranked_as_long [] (y ∷ b) e = absurd (omega arith)
ranked_as_long (x ∷ a) [] e = absurd (omega arith)
ranked_as_long (Dominant ∷ a) (Dominant ∷ b) e = Ranked-cons Dominant a b (ranked_as_long a b (omega arith))
ranked_as_long (Dominant ∷ a) (Recessive ∷ b) e = inl (Before-Lesser here)
ranked_as_long (Recessive ∷ a) (Dominant ∷ b) e = inr (inr (Before-Lesser here))
ranked_as_long (Recessive ∷ a) (Recessive ∷ b) e = Ranked-cons Recessive a b (ranked_as_long a b (omega arith))

-- of two lists of one length the one of the lesser number is before the other
pub Before-number_from : (a b : List Level) → length a ≡ length b → number_from 0 a < number_from 0 b → Before a b
Before-number_from [] [] e h = absurd (omega arith)
Before-number_from [] (y ∷ b) e h = absurd (omega arith)
Before-number_from (x ∷ a) [] e h = absurd (omega arith)
Before-number_from (Dominant ∷ a) (Dominant ∷ b) e h = Before-cons Dominant a b (Before-number_from a b (omega arith) h)
Before-number_from (Dominant ∷ a) (Recessive ∷ b) e h = Before-Lesser here
Before-number_from (Recessive ∷ a) (Dominant ∷ b) e h =
    let size : 2 ^ length a ≡ 2 ^ length b = ap (λ n. 2 ^ n) (let k : length a ≡ length b = omega arith in k) in
    absurd (omega (arith, number_from-split 1 a, number_from-lt b, size, h))
Before-number_from (Recessive ∷ a) (Recessive ∷ b) e h =
    let size : 2 ^ length a ≡ 2 ^ length b = ap (λ n. 2 ^ n) (let k : length a ≡ length b = omega arith in k) in
    Before-cons Recessive a b (Before-number_from a b (omega arith) (omega (arith, number_from-split 1 a, number_from-split 1 b, size, h)))

-- the result o is the order of two lists
pub record Tells (a b : List Level) (o : Ordering) : Type 0 where
  pub less : (o ≡ Less) ↔ Before a b
  pub equal : (o ≡ Equal) ↔ (a ≡ b)
  pub greater : (o ≡ Greater) ↔ Before b a

pub field_cmp-tells : (a b : List Level) → Ranked a b → Tells a b (field_cmp a b)
field_cmp-tells a b (inl h) =
    let is = field_cmp-before a b h in
    record { less = (λ e. h, λ k. is); equal = (λ e. cc, λ e. field_cmp-same a b e); greater = (λ e. cc, λ k. field_cmp-after a b k) }
field_cmp-tells a b (inr (inl h)) =
    let is = field_cmp-same a b h in
    record { less = (λ e. cc, λ k. field_cmp-before a b k); equal = (λ e. h, λ e. is); greater = (λ e. cc, λ k. field_cmp-after a b k) }
field_cmp-tells a b (inr (inr h)) =
    let is = field_cmp-after a b h in
    record { less = (λ e. cc, λ k. field_cmp-before a b k); equal = (λ e. cc, λ e. field_cmp-same a b e); greater = (λ e. h, λ k. is) }
