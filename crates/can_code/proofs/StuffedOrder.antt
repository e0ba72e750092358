-- Stuffing keeps the order of lists: if one list is before another, so it is with the stuff bits of both.
use Rattle.std.proofs.Common.{◌≡◌, ℕ, suc, zero, Bool, true, false, Some, List, [], ◌∷◌, take, refl, cond}
use Rattle.std.proofs.Math.Dec.{eqb}
use Rattle.std.specs.Prelude.{slice_get}
use Rattle.can_frame.specs.declared.level.Level.{Level}
use Rattle.can_frame.specs.declared.level.Level.TheVariants.{Dominant, Recessive}
use Rattle.can_frame.specs.Levels.{opposite}
use Rattle.can_frame.specs.Arbitration.{Before}
use Rattle.can_frame.proofs.BeforeLemmas.{Before-cons}
use Rattle.can_wire.specs.Stuffing.{run_after, stuffed_from, stuffed}

-- the first levels differ, whether stuff bits follow them or not
first_differs : (p q : Bool) (a b c d : List Level) → Before (cond p (Dominant ∷ a) (Dominant ∷ b)) (cond q (Recessive ∷ c) (Recessive ∷ d))
first_differs p q a b c d = record { place = 0; same = refl; low = low p; high = high q }
  where
    low : (p : Bool) → slice_get (cond p (Dominant ∷ a) (Dominant ∷ b)) 0 ≡ Some Dominant
    low true = refl
    low false = refl

    high : (q : Bool) → slice_get (cond q (Recessive ∷ c) (Recessive ∷ d)) 0 ≡ Some Recessive
    high true = refl
    high false = refl

-- after a run of any level and length
stuffed_from-before : (a b : List Level) (last : Level) (run place : ℕ) → take place a ≡ take place b → slice_get a place ≡ Some Dominant → slice_get b place ≡ Some Recessive
    → Before (stuffed_from last run a) (stuffed_from last run b)
stuffed_from-before [] b last run place same low high = cc
stuffed_from-before (x ∷ a) [] last run place same low high = cc
stuffed_from-before (x ∷ a) (y ∷ b) last run zero same low high =
    let dominant : x ≡ Dominant = cc in
    let recessive : y ≡ Recessive = cc in
    rw (dominant, recessive) (first_differs _ _ _ _ _ _)
stuffed_from-before (x ∷ a) (y ∷ b) last run (suc place) same low high =
    let first : y ≡ x = cc in
    let rest : take place a ≡ take place b = cc in
    rw first (both (eqb (run_after last run x) 5) (stuffed_from-before a b (opposite x) 1 place rest low high) (stuffed_from-before a b x (run_after last run x) place rest low high))
  where
    both : (due : Bool) → Before (stuffed_from (opposite x) 1 a) (stuffed_from (opposite x) 1 b) → Before (stuffed_from x (run_after last run x) a) (stuffed_from x (run_after last run x) b)
        → Before (cond due (x ∷ opposite x ∷ stuffed_from (opposite x) 1 a) (x ∷ stuffed_from x (run_after last run x) a))
        (cond due (x ∷ opposite x ∷ stuffed_from (opposite x) 1 b) (x ∷ stuffed_from x (run_after last run x) b))
    both true h k = Before-cons x _ _ (Before-cons (opposite x) _ _ h)
    both false h k = Before-cons x _ _ k

pub stuffed-before : (a b : List Level) → Before a b → Before (stuffed a) (stuffed b)
unfolding stuffed
stuffed-before a b h = stuffed_from-before a b Dominant 0 h.place h.same h.low h.high
