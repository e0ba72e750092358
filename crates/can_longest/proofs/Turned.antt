-- The same number follows opposite levels, if the CRC sequence is opposite too.
use Rattle.std.proofs.Common.{◌≡◌, ℕ, suc, zero, ◌+◌, Bool, true, false, cond, List, [], ◌∷◌, length, refl, sym, ◌∙◌, ap, arith, replicate}
use Rattle.std.proofs.Math.Dec.{eqb}
use Rattle.can_frame.specs.declared.level.Level.{Level}
use Rattle.can_frame.specs.declared.level.Level.TheVariants.{Dominant, Recessive}
use Rattle.can_frame.specs.Levels.{opposite}
use Rattle.can_frame.proofs.LevelTests.{opposite-twice}
use Rattle.can_wire.specs.Crc.{plus, xor, crc_of}
use Rattle.can_wire.specs.Stuffing.{run_after, stuffed_from}
use Rattle.can_wire.proofs.DivisionLemmas.{none, length-crc_of}
use Rattle.can_wire.proofs.XorLemmas.{length-xor, xor_assoc, xor_comm, xor_twice}
use Rattle.can_longest.specs.ToCome.{wire_levels, next_last, next_run, next_check, most, most_with, turned}
use Rattle.can_longest.proofs.Greatest.{most-suc}
use Rattle.can_longest.proofs.Steps.{length-stuffed_from}
use Rattle.can_longest.proofs.CheckSums.{length-added, next_check-dominant}

plus_recessive : (x : Level) → plus x Recessive ≡ opposite x
plus_recessive Dominant = refl
plus_recessive Recessive = refl

run_after-opposite : (last : Level) (run : ℕ) (x : Level) → run_after (opposite last) run x ≡ run_after last run (opposite x)
run_after-opposite Dominant run Dominant = refl
run_after-opposite Dominant run Recessive = refl
run_after-opposite Recessive run Dominant = refl
run_after-opposite Recessive run Recessive = refl

wire_levels-opposite : (last : Level) (run : ℕ) (x : Level) → wire_levels (opposite last) run x ≡ wire_levels last run (opposite x)
wire_levels-opposite last run x = ap (λ n. cond (eqb n 5) 2 1) (run_after-opposite last run x)

next_run-opposite : (last : Level) (run : ℕ) (x : Level) → next_run (opposite last) run x ≡ next_run last run (opposite x)
next_run-opposite last run x = ap (λ n. cond (eqb n 5) 1 n) (run_after-opposite last run x)

next_last-opposite : (last : Level) (run : ℕ) (x : Level) → next_last (opposite last) run x ≡ opposite (next_last last run (opposite x))
next_last-opposite last run x = ap (λ n. cond (eqb n 5) (opposite x) x) (run_after-opposite last run x) ∙ by (eqb (run_after last run (opposite x)) 5)
  where
    by : (b : Bool) → cond b (opposite x) x ≡ opposite (cond b (opposite (opposite x)) (opposite x))
    by true = sym (opposite-twice (opposite x))
    by false = sym (opposite-twice x)

length-stuffed-opposite : (xs : List Level) (last : Level) (run : ℕ) → length (stuffed_from (opposite last) run xs) ≡ length (stuffed_from last run (xor xs (replicate (length xs) Recessive)))
length-stuffed-opposite [] last run = refl
length-stuffed-opposite (x ∷ xs) last run =
    let turned_xs = xor xs (replicate (length xs) Recessive) in
    length-stuffed_from (opposite last) run x xs
    ∙ ap (λ n. n + length (stuffed_from (next_last (opposite last) run x) (next_run (opposite last) run x) xs)) (wire_levels-opposite last run x)
    ∙ ap (λ n. wire_levels last run (opposite x) + length (stuffed_from (next_last (opposite last) run x) n xs)) (next_run-opposite last run x)
    ∙ ap (λ y. wire_levels last run (opposite x) + length (stuffed_from y (next_run last run (opposite x)) xs)) (next_last-opposite last run x)
    ∙ ap (λ n. wire_levels last run (opposite x) + n) (length-stuffed-opposite xs (next_last last run (opposite x)) (next_run last run (opposite x)))
    ∙ sym (length-stuffed_from last run (opposite x) turned_xs) ∙ ap (λ y. length (stuffed_from last run (y ∷ turned_xs))) (sym (plus_recessive x))

pub turned-suc : (k : ℕ) → turned (suc k) ≡ next_check k (turned k) Recessive
unfolding turned
turned-suc k = refl

pub length-turned : (k : ℕ) → length (turned k) ≡ 15
unfolding turned
length-turned zero = refl
length-turned (suc k) = length-added (turned k) (Recessive ∷ none k) (length-turned k)

-- an opposite level leads from a CRC sequence to its opposite
pub next_check-opposite : (k : ℕ) (check : List Level) (x : Level) → length check ≡ 15 → xor (next_check k check x) (turned k) ≡ next_check k (xor check (turned (suc k))) (opposite x)
next_check-opposite k check Dominant size =
    let t = turned k in
    let r = crc_of (Recessive ∷ none k) in
    ap (λ c. xor c t) (next_check-dominant k check size) ∙ sym (
    ap (λ u. xor (xor check u) r) (turned-suc k) ∙ xor_assoc check (xor t r) r
    ∙ ap (xor check) (xor_twice t r (omega (arith, length-turned k, length-crc_of (Recessive ∷ none k)))))
next_check-opposite k check Recessive size =
    let t = turned k in
    let r = crc_of (Recessive ∷ none k) in
    let fifteen : length (xor check (turned (suc k))) ≡ 15 = length-xor check (turned (suc k)) (omega (arith, length-turned (suc k))) ∙ size in
    xor_assoc check r t ∙ ap (xor check) (xor_comm r t ∙ sym (turned-suc k)) ∙ sym (next_check-dominant k (xor check (turned (suc k))) fifteen)

-- one level more
module _ (k : ℕ) (last : Level) (run : ℕ) (check : List Level) (size : length check ≡ 15)
    (rest : (y : Level) (n : ℕ) (c : List Level) → length c ≡ 15 → most k (opposite y) n c ≡ most k y n (xor c (turned k))) where
  side : (x : Level) → most_with k (opposite last) run check x ≡ most_with k last run (xor check (turned (suc k))) (opposite x)
  side x =
      let next = next_check k check x in
      ap (λ n. n + most k (next_last (opposite last) run x) (next_run (opposite last) run x) next) (wire_levels-opposite last run x)
      ∙ ap (λ n. wire_levels last run (opposite x) + most k (next_last (opposite last) run x) n next) (next_run-opposite last run x)
      ∙ ap (λ y. wire_levels last run (opposite x) + most k y (next_run last run (opposite x)) next) (next_last-opposite last run x)
      ∙ ap (λ n. wire_levels last run (opposite x) + n) (rest (next_last last run (opposite x)) (next_run last run (opposite x)) next (length-added check (x ∷ none k) size))
      ∙ ap (λ c. wire_levels last run (opposite x) + most k (next_last last run (opposite x)) (next_run last run (opposite x)) c) (next_check-opposite k check x size)

  most-opposite-suc : most (suc k) (opposite last) run check ≡ most (suc k) last run (xor check (turned (suc k)))
  most-opposite-suc =
      let a = side Dominant in
      let b = side Recessive in
      omega (arith, most-suc k (opposite last) run check, most-suc k last run (xor check (turned (suc k))), a, b)

most-opposite-zero : (last : Level) (run : ℕ) (check : List Level) → length check ≡ 15 → most zero (opposite last) run check ≡ most zero last run (xor check (turned zero))
unfolding most turned
most-opposite-zero last run check size =
    length-stuffed-opposite check last run ∙ ap (λ n. length (stuffed_from last run (xor check (replicate n Recessive)))) size

pub most-opposite : (k : ℕ) (last : Level) (run : ℕ) (check : List Level) → length check ≡ 15 → most k (opposite last) run check ≡ most k last run (xor check (turned k))
most-opposite zero last run check size = most-opposite-zero last run check size
most-opposite (suc k) last run check size = most-opposite-suc k last run check size (most-opposite k)
