-- What comes at most is the greatest of what may come.
use Rattle.std.proofs.Common.{◌≡◌, ℕ, suc, zero, ◌+◌, ◌*◌, ◌≤◌, ◌⊎◌, List, [], ◌∷◌, ◌++◌, length, refl, sym, ◌∙◌, ap, arith, inl, inr, max, length-append, append_assoc}
use Rattle.std.proofs.lemmas.Bool.{cases_lt}
use Rattle.can_frame.specs.declared.level.Level.{Level}
use Rattle.can_frame.specs.declared.level.Level.TheVariants.{Dominant, Recessive}
use Rattle.can_wire.specs.Crc.{xor, crc_of}
use Rattle.can_wire.specs.Stuffing.{stuffed_from}
use Rattle.can_wire.proofs.DivisionLemmas.{none}
use Rattle.can_wire.proofs.XorLemmas.{xor_assoc, xor_zeros}
use Rattle.can_wire.proofs.Register.{crc_of-none}
use Rattle.can_longest.specs.ToCome.{wire_levels, next_last, next_run, next_check, to_come, most, most_with}
use Rattle.can_longest.proofs.Steps.{length-stuffed_from, length-stuffed_from-le}
use Rattle.can_longest.proofs.CheckSums.{crc_of-parts, length-added}

-- only the CRC sequence
pub to_come-none : (last : Level) (run : ℕ) (check : List Level) → length check ≡ 15 → to_come last run check [] ≡ length (stuffed_from last run check)
unfolding to_come
to_come-none last run check size = ap (λ t. length (stuffed_from last run t)) (ap (xor check) (crc_of-none 0) ∙ xor_zeros check 15 (omega arith))

-- some levels, and then the rest
pub to_come-behind : (last : Level) (run : ℕ) (check a d : List Level)
    → to_come last run check (a ++ d) ≡ length (stuffed_from last run (a ++ (d ++ xor (xor check (crc_of (a ++ none (length d)))) (crc_of d))))
unfolding to_come
to_come-behind last run check a d =
    ap (λ t. length (stuffed_from last run t)) (append_assoc a d (xor check (crc_of (a ++ d)))
    ∙ ap (λ t. a ++ (d ++ t)) (ap (xor check) (crc_of-parts a d) ∙ sym (xor_assoc check (crc_of (a ++ none (length d))) (crc_of d))))

-- one level, and then the rest
pub to_come-level : (last : Level) (run : ℕ) (check : List Level) (x : Level) (d : List Level)
    → to_come last run check (x ∷ d) ≡ wire_levels last run x + to_come (next_last last run x) (next_run last run x) (next_check (length d) check x) d
unfolding to_come
to_come-level last run check x d =
    to_come-behind last run check (x ∷ []) d ∙ length-stuffed_from last run x (d ++ xor (next_check (length d) check x) (crc_of d))

pub most-suc : (k : ℕ) (last : Level) (run : ℕ) (check : List Level) → most (suc k) last run check ≡ max (most_with k last run check Dominant) (most_with k last run check Recessive)
unfolding most
most-suc k last run check = refl

pub most-zero : (last : Level) (run : ℕ) (check : List Level) → length check ≡ 15 → most zero last run check ≡ to_come last run check []
unfolding most
most-zero last run check size = sym (to_come-none last run check size)

most_with-le : (k : ℕ) (last : Level) (run : ℕ) (check : List Level) (x : Level) → most_with k last run check x ≤ most (suc k) last run check
most_with-le k last run check Dominant = omega (arith, most-suc k last run check)
most_with-le k last run check Recessive = omega (arith, most-suc k last run check)

-- no list of k levels makes it more
pub most-none_longer : (k : ℕ) (last : Level) (run : ℕ) (check d : List Level) → length check ≡ 15 → length d ≡ k → to_come last run check d ≤ most k last run check
most-none_longer zero last run check [] size h = omega (arith, most-zero last run check size)
most-none_longer zero last run check (x ∷ d) size h = absurd (omega arith)
most-none_longer (suc k) last run check [] size h = absurd (omega arith)
most-none_longer (suc k) last run check (x ∷ d) size h =
    let count : length d ≡ k = omega arith in
    let next = next_check k check x in
    let rest = most-none_longer k (next_last last run x) (next_run last run x) next d (length-added check (x ∷ none k) size) count in
    let level = to_come-level last run check x d ∙ ap (λ n. wire_levels last run x + to_come (next_last last run x) (next_run last run x) (next_check n check x) d) count in
    omega (arith, level, rest, most_with-le k last run check x)

-- a list of k levels that reaches it
abbrev pub Reached : ℕ → Level → ℕ → List Level → ℕ → Type 0
Reached k last run check n = (d : List Level) × (length d ≡ k) × (to_come last run check d ≡ n)

-- the list of one level more
module _ (k : ℕ) (last : Level) (run : ℕ) (check : List Level)
    (rest : (x : Level) → Reached k (next_last last run x) (next_run last run x) (next_check k check x) (most k (next_last last run x) (next_run last run x) (next_check k check x))) where
  greater : (a b : ℕ) → (max a b ≡ a) ⊎ (max a b ≡ b)
  greater a b = elim (cases_lt a b) [
    | inl less ↦ let e : max a b ≡ b = omega arith in inr e
    | inr more ↦ let e : max a b ≡ a = omega arith in inl e
  ]

  with_level : (x : Level) → most (suc k) last run check ≡ most_with k last run check x → Reached (suc k) last run check (most (suc k) last run check)
  with_level x e =
      let r = rest x in
      let level = to_come-level last run check x r.0 ∙ ap (λ n. wire_levels last run x + to_come (next_last last run x) (next_run last run x) (next_check n check x) r.0) r.1 in
      (x ∷ r.0, ap suc r.1, level ∙ ap (λ n. wire_levels last run x + n) r.2 ∙ sym e)

  reached-suc : Reached (suc k) last run check (most (suc k) last run check)
  reached-suc = elim (greater (most_with k last run check Dominant) (most_with k last run check Recessive)) [
    | inl e ↦ with_level Dominant (most-suc k last run check ∙ e)
    | inr e ↦ with_level Recessive (most-suc k last run check ∙ e)
  ]

-- and one reaches it
pub most-one_as_long : (k : ℕ) (last : Level) (run : ℕ) (check : List Level) → length check ≡ 15 → Reached k last run check (most k last run check)
most-one_as_long zero last run check size = ([], refl, sym (most-zero last run check size))
most-one_as_long (suc k) last run check size =
    reached-suc k last run check (λ x. most-one_as_long k (next_last last run x) (next_run last run x) (next_check k check x) (length-added check (x ∷ none k) size))

-- it is not much
pub most-le : (k : ℕ) (last : Level) (run : ℕ) (check : List Level) → length check ≡ 15 → most k last run check ≤ 2 * (k + 15)
unfolding to_come
most-le k last run check size =
    let r = most-one_as_long k last run check size in
    let all = xor check (crc_of r.0) in
    omega (arith, r.1, r.2, length-append r.0 all, length-added check r.0 size, length-stuffed_from-le (r.0 ++ all) last run)
