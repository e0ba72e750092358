-- The recessive runs of a list of levels, and the occurrences in them, as the list grows.
use Rattle.std.proofs.Common.{◌≡◌, ℕ, zero, suc, ◌+◌, ◌*◌, ◌/◌, ◌≤◌, List, [], ◌∷◌, ◌++◌, length, reverse, replicate, refl, sym, ◌∙◌, ap, subst, arith}
use Rattle.std.specs.Prelude.{sum_by, take_while}
use Rattle.std.proofs.lemmas.List.{append-nil, reverse-append, reverse-reverse}
use Rattle.std.proofs.lemmas.List.Sums.{sum_by-cons, take_while-cons}
use Rattle.can_frame.specs.declared.level.Level.{Level}
use Rattle.can_frame.specs.declared.level.Level.TheVariants.{Dominant, Recessive}
use Rattle.can_frame.specs.Levels.{is_recessive}
use Rattle.can_fault.specs.Recovery.{runs_from, recessive_runs, occurrences_in, last_run}

-- the occurrences in levels, after n recessive ones
abbrev occurrences_from : ℕ → List Level → ℕ
occurrences_from n levels = sum_by (λ m. m / 11) (runs_from n levels)

-- the recessive run that ends levels, after n recessive ones
abbrev run_from : ℕ → List Level → ℕ
run_from n [] = n
run_from n (Dominant ∷ levels) = run_from 0 levels
run_from n (Recessive ∷ levels) = run_from (n + 1) levels

occurrences_from-nil : (n : ℕ) → occurrences_from n [] ≡ n / 11
occurrences_from-nil n = omega (arith, sum_by-cons (λ m. m / 11) n [])

occurrences_from-dominant : (n : ℕ) (l : List Level) → occurrences_from n (Dominant ∷ l) ≡ n / 11 + occurrences_from 0 l
occurrences_from-dominant n l = sum_by-cons (λ m. m / 11) n (runs_from 0 l)

-- a level more at the end
occurrences_from-push_dominant : (n : ℕ) (l : List Level) → occurrences_from n (l ++ Dominant ∷ []) ≡ occurrences_from n l
occurrences_from-push_dominant n [] = omega (arith, occurrences_from-dominant n [], occurrences_from-nil 0, occurrences_from-nil n)
occurrences_from-push_dominant n (Dominant ∷ l) =
    omega (arith, occurrences_from-dominant n (l ++ Dominant ∷ []), occurrences_from-push_dominant 0 l, occurrences_from-dominant n l)
occurrences_from-push_dominant n (Recessive ∷ l) = occurrences_from-push_dominant (n + 1) l

occurrences_from-push_recessive : (n : ℕ) (l : List Level) → occurrences_from n (l ++ Recessive ∷ []) + run_from n l / 11 ≡ occurrences_from n l + (run_from n l + 1) / 11
occurrences_from-push_recessive n [] = omega (arith, occurrences_from-nil n, occurrences_from-nil (n + 1))
occurrences_from-push_recessive n (Dominant ∷ l) =
    omega (arith, occurrences_from-dominant n (l ++ Recessive ∷ []), occurrences_from-push_recessive 0 l, occurrences_from-dominant n l)
occurrences_from-push_recessive n (Recessive ∷ l) = occurrences_from-push_recessive (n + 1) l

run_from-push_dominant : (n : ℕ) (l : List Level) → run_from n (l ++ Dominant ∷ []) ≡ 0
run_from-push_dominant n [] = refl
run_from-push_dominant n (Dominant ∷ l) = run_from-push_dominant 0 l
run_from-push_dominant n (Recessive ∷ l) = run_from-push_dominant (n + 1) l

run_from-push_recessive : (n : ℕ) (l : List Level) → run_from n (l ++ Recessive ∷ []) ≡ run_from n l + 1
run_from-push_recessive n [] = refl
run_from-push_recessive n (Dominant ∷ l) = run_from-push_recessive 0 l
run_from-push_recessive n (Recessive ∷ l) = run_from-push_recessive (n + 1) l

pub last_run-dominant : (l : List Level) → last_run (l ++ Dominant ∷ []) ≡ 0
unfolding last_run
last_run-dominant l =
    ap (λ t. length (take_while is_recessive t)) (reverse-append l (Dominant ∷ [])) ∙ ap length (take_while-cons is_recessive Dominant (reverse l))

pub last_run-recessive : (l : List Level) → last_run (l ++ Recessive ∷ []) ≡ last_run l + 1
unfolding last_run
last_run-recessive l =
    let more : last_run (l ++ Recessive ∷ []) ≡ suc (last_run l) =
    ap (λ t. length (take_while is_recessive t)) (reverse-append l (Recessive ∷ [])) ∙ ap length (take_while-cons is_recessive Recessive (reverse l)) in
    omega arith

run_from-last_run : (l : List Level) → run_from 0 l ≡ last_run l
unfolding last_run
run_from-last_run l = subst (λ t. run_from 0 t ≡ last_run t) (reverse-reverse l) (turned (reverse l))
  where
    turned : (l : List Level) → run_from 0 (reverse l) ≡ last_run (reverse l)
    turned [] = refl
    turned (Dominant ∷ l) =
        subst (λ t. run_from 0 t ≡ last_run t) (sym (reverse-append (Dominant ∷ []) l))
        (run_from-push_dominant 0 (reverse l) ∙ sym (last_run-dominant (reverse l)))
    turned (Recessive ∷ l) =
        subst (λ t. run_from 0 t ≡ last_run t) (sym (reverse-append (Recessive ∷ []) l))
        (run_from-push_recessive 0 (reverse l) ∙ ap (λ n. n + 1) (turned l) ∙ sym (last_run-recessive (reverse l)))

pub occurrences_in-dominant : (l : List Level) → occurrences_in (l ++ Dominant ∷ []) ≡ occurrences_in l
unfolding occurrences_in
occurrences_in-dominant l = occurrences_from-push_dominant 0 l

-- one more occurrence if the last run reaches the next multiple of eleven
pub occurrences_in-recessive : (l : List Level) → occurrences_in (l ++ Recessive ∷ []) + last_run l / 11 ≡ occurrences_in l + (last_run l + 1) / 11
unfolding occurrences_in last_run
occurrences_in-recessive l =
    subst (λ n. occurrences_in (l ++ Recessive ∷ []) + n / 11 ≡ occurrences_in l + (n + 1) / 11) (run_from-last_run l) (occurrences_from-push_recessive 0 l)

-- a front has no more occurrences than the list
pub occurrences_in-append-le : (a b : List Level) → occurrences_in a ≤ occurrences_in (a ++ b)
unfolding occurrences_in
occurrences_in-append-le a b = by_runs 0 a
  where
    first_run : (n : ℕ) (b : List Level) → n / 11 ≤ occurrences_from n b
    first_run n [] = omega (arith, occurrences_from-nil n)
    first_run n (Dominant ∷ b) = omega (arith, occurrences_from-dominant n b)
    first_run n (Recessive ∷ b) = omega (arith, first_run (n + 1) b)

    by_runs : (n : ℕ) (a : List Level) → occurrences_from n a ≤ occurrences_from n (a ++ b)
    by_runs n [] = omega (arith, occurrences_from-nil n, first_run n b)
    by_runs n (Dominant ∷ a) = omega (arith, occurrences_from-dominant n a, by_runs 0 a, occurrences_from-dominant n (a ++ b))
    by_runs n (Recessive ∷ a) = by_runs (n + 1) a

-- each occurrence has eleven levels of its own
pub occurrences_in-le : (l : List Level) → 11 * occurrences_in l ≤ length l
unfolding occurrences_in
occurrences_in-le l = omega (arith, by_runs 0 l)
  where
    by_runs : (n : ℕ) (l : List Level) → 11 * occurrences_from n l ≤ n + length l
    by_runs n [] = omega (arith, occurrences_from-nil n)
    by_runs n (Dominant ∷ l) = omega (arith, occurrences_from-dominant n l, by_runs 0 l)
    by_runs n (Recessive ∷ l) = omega (arith, by_runs (n + 1) l)

-- recessive levels alone
runs_from-replicate : (n r : ℕ) (l : List Level) → runs_from n (replicate r Recessive ++ l) ≡ runs_from (n + r) l
runs_from-replicate n zero l = ap (λ m. runs_from m l) (let e : n ≡ n + 0 = omega arith in e)
runs_from-replicate n (suc r) l =
    runs_from-replicate (n + 1) r l ∙ ap (λ m. runs_from m l) (let e : n + 1 + r ≡ n + suc r = omega arith in e)

pub recessive_runs-replicate : (r : ℕ) → recessive_runs (replicate r Recessive) ≡ r ∷ []
recessive_runs-replicate r =
    ap recessive_runs (sym (append-nil (replicate r Recessive)))
    ∙ runs_from-replicate 0 r []
    ∙ ap (λ n. n ∷ []) (let e : 0 + r ≡ r = omega arith in e)

pub recessive_runs-split : (r : ℕ) (l : List Level) → recessive_runs (replicate r Recessive ++ Dominant ∷ l) ≡ r ∷ recessive_runs l
recessive_runs-split r l =
    runs_from-replicate 0 r (Dominant ∷ l) ∙ ap (λ n. n ∷ recessive_runs l) (let e : 0 + r ≡ r = omega arith in e)

pub occurrences_in-replicate : (r : ℕ) → occurrences_in (replicate r Recessive) ≡ r / 11
unfolding occurrences_in
occurrences_in-replicate r = ap (sum_by (λ m. m / 11)) (recessive_runs-replicate r) ∙ occurrences_from-nil r

pub last_run-replicate : (r : ℕ) → last_run (replicate r Recessive) ≡ r
unfolding last_run
last_run-replicate r =
    sym (run_from-last_run (replicate r Recessive)) ∙ counted 0 r ∙ (let e : 0 + r ≡ r = omega arith in e)
  where
    counted : (n r : ℕ) → run_from n (replicate r Recessive) ≡ n + r
    counted n zero = omega arith
    counted n (suc r) = counted (n + 1) r ∙ (let e : n + 1 + r ≡ n + suc r = omega arith in e)
