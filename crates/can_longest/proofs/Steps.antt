-- What comes, level by level.
use Rattle.std.proofs.Common.{◌≡◌, ℕ, suc, ◌+◌, ◌-◌, ◌*◌, ◌/◌, ◌%◌, ◌^◌, ◌≤◌, ◌<◌, Bool, true, false, List, [], ◌∷◌, ◌++◌, length, sym, ◌∙◌, ap, arith, cond}
use Rattle.std.proofs.Math.Dec.{eqb}
use Rattle.can_frame.specs.declared.level.Level.{Level}
use Rattle.can_frame.specs.Levels.{bits_of, level_of, opposite}
use Rattle.can_wire.specs.Stuffing.{run_after, stuffed_from}
use Rattle.can_wire.proofs.LevelLemmas.{bits_of-suc}
use Rattle.can_longest.specs.ToCome.{wire_levels, next_last, next_run}

-- a level, its stuff bit, and the rest with theirs
pub length-stuffed_from : (last : Level) (run : ℕ) (x : Level) (xs : List Level)
    → length (stuffed_from last run (x ∷ xs)) ≡ wire_levels last run x + length (stuffed_from (next_last last run x) (next_run last run x) xs)
length-stuffed_from last run x xs = by (eqb (run_after last run x) 5)
  where
    by : (b : Bool) → length (cond b (x ∷ opposite x ∷ stuffed_from (opposite x) 1 xs) (x ∷ stuffed_from x (run_after last run x) xs))
        ≡ cond b 2 1 + length (stuffed_from (cond b (opposite x) x) (cond b 1 (run_after last run x)) xs)
    by true = omega arith
    by false = omega arith

-- no level has two stuff bits
pub length-stuffed_from-le : (xs : List Level) (last : Level) (run : ℕ) → length (stuffed_from last run xs) ≤ 2 * length xs
length-stuffed_from-le [] last run = omega arith
length-stuffed_from-le (x ∷ xs) last run =
    omega (arith, length-stuffed_from last run x xs, wire_levels-le last run x, length-stuffed_from-le xs (next_last last run x) (next_run last run x))
  where
    wire_levels-le : (last : Level) (run : ℕ) (x : Level) → wire_levels last run x ≤ 2
    wire_levels-le last run x = by (eqb (run_after last run x) 5)
      where
        by : (b : Bool) → cond b 2 1 ≤ 2
        by true = omega arith
        by false = omega arith

-- the highest of a number's levels, its stuff bit, and the others with theirs
pub stuffed_further : (left x : ℕ) → 0 < left → (last : Level) (run : ℕ) (level : Level) → level ≡ level_of (x / 2 ^ (left - 1) % 2) → (rest : List Level)
    → length (stuffed_from last run (bits_of left x ++ rest)) ≡ wire_levels last run level + length (stuffed_from (next_last last run level) (next_run last run level) (bits_of (left - 1) x ++ rest))
stuffed_further left x some last run level is rest =
    let more : left ≡ suc (left - 1) = omega arith in
    let first : bits_of left x ≡ level ∷ bits_of (left - 1) x = ap (λ n. bits_of n x) more ∙ bits_of-suc (left - 1) x ∙ ap (λ y. y ∷ bits_of (left - 1) x) (sym is) in
    ap (λ t. length (stuffed_from last run (t ++ rest))) first ∙ length-stuffed_from last run level (bits_of (left - 1) x ++ rest)
