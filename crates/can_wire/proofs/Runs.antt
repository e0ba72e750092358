-- The run that a list of levels ends in, and what follows from it for the next stuff bit.
use Rattle.std.proofs.Common.{◌≡◌, ◌≢◌, ℕ, suc, ◌+◌, ◌-◌, ◌<◌, ◌≤◌, true, false, List, [], ◌∷◌, ◌++◌, length, get_or, reverse, refl, sym, ◌∙◌, ap, subst, arith, cond}
use Rattle.std.proofs.lemmas.List.{reverse-append, get_or-reverse, get_or_default}
use Rattle.can_frame.specs.declared.level.Level.{Level}
use Rattle.can_frame.specs.declared.level.Level.TheVariants.{Dominant, Recessive}
use Rattle.can_frame.specs.Levels.{same, opposite}
use Rattle.can_wire.specs.Stuffing.{begins_with_five, run_after}
use Rattle.can_wire.proofs.StuffPlaces.{is_due, is_due-reverse, nonempty_from_due}

-- how many levels at the front equal y
abbrev pub leading : Level → List Level → ℕ
leading y [] = 0
leading y (x ∷ xs) = cond (same y x) (suc (leading y xs)) 0

-- the length of the first run
abbrev pub first_run : List Level → ℕ
first_run [] = 0
first_run (x ∷ xs) = suc (leading x xs)

begins_with_five-short : (r : List Level) → first_run r < 5 → begins_with_five r ≡ false
begins_with_five-short [] h = refl
begins_with_five-short (v ∷ []) h = refl
begins_with_five-short (v ∷ w ∷ []) h = refl
begins_with_five-short (v ∷ w ∷ x ∷ []) h = refl
begins_with_five-short (v ∷ w ∷ x ∷ y ∷ []) h = refl
begins_with_five-short (Dominant ∷ Recessive ∷ x ∷ y ∷ z ∷ r) h = refl
begins_with_five-short (Recessive ∷ Dominant ∷ x ∷ y ∷ z ∷ r) h = refl
begins_with_five-short (Dominant ∷ Dominant ∷ Recessive ∷ y ∷ z ∷ r) h = refl
begins_with_five-short (Recessive ∷ Recessive ∷ Dominant ∷ y ∷ z ∷ r) h = refl
begins_with_five-short (Dominant ∷ Dominant ∷ Dominant ∷ Recessive ∷ z ∷ r) h = refl
begins_with_five-short (Recessive ∷ Recessive ∷ Recessive ∷ Dominant ∷ z ∷ r) h = refl
begins_with_five-short (Dominant ∷ Dominant ∷ Dominant ∷ Dominant ∷ Recessive ∷ r) h = refl
begins_with_five-short (Recessive ∷ Recessive ∷ Recessive ∷ Recessive ∷ Dominant ∷ r) h = refl
begins_with_five-short (Dominant ∷ Dominant ∷ Dominant ∷ Dominant ∷ Dominant ∷ r) h = absurd (omega arith)
begins_with_five-short (Recessive ∷ Recessive ∷ Recessive ∷ Recessive ∷ Recessive ∷ r) h = absurd (omega arith)

begins_with_five-long : (r : List Level) → 5 ≤ first_run r → begins_with_five r ≡ true
begins_with_five-long [] h = absurd (omega arith)
begins_with_five-long (v ∷ []) h = absurd (omega arith)
begins_with_five-long (Dominant ∷ Recessive ∷ r) h = absurd (omega arith)
begins_with_five-long (Recessive ∷ Dominant ∷ r) h = absurd (omega arith)
begins_with_five-long (Dominant ∷ Dominant ∷ []) h = absurd (omega arith)
begins_with_five-long (Recessive ∷ Recessive ∷ []) h = absurd (omega arith)
begins_with_five-long (Dominant ∷ Dominant ∷ Recessive ∷ r) h = absurd (omega arith)
begins_with_five-long (Recessive ∷ Recessive ∷ Dominant ∷ r) h = absurd (omega arith)
begins_with_five-long (Dominant ∷ Dominant ∷ Dominant ∷ []) h = absurd (omega arith)
begins_with_five-long (Recessive ∷ Recessive ∷ Recessive ∷ []) h = absurd (omega arith)
begins_with_five-long (Dominant ∷ Dominant ∷ Dominant ∷ Recessive ∷ r) h = absurd (omega arith)
begins_with_five-long (Recessive ∷ Recessive ∷ Recessive ∷ Dominant ∷ r) h = absurd (omega arith)
begins_with_five-long (Dominant ∷ Dominant ∷ Dominant ∷ Dominant ∷ []) h = absurd (omega arith)
begins_with_five-long (Recessive ∷ Recessive ∷ Recessive ∷ Recessive ∷ []) h = absurd (omega arith)
begins_with_five-long (Dominant ∷ Dominant ∷ Dominant ∷ Dominant ∷ Recessive ∷ r) h = absurd (omega arith)
begins_with_five-long (Recessive ∷ Recessive ∷ Recessive ∷ Recessive ∷ Dominant ∷ r) h = absurd (omega arith)
begins_with_five-long (Dominant ∷ Dominant ∷ Dominant ∷ Dominant ∷ Dominant ∷ r) h = refl
begins_with_five-long (Recessive ∷ Recessive ∷ Recessive ∷ Recessive ∷ Recessive ∷ r) h = refl

-- b ends in a run of this level and length; the empty list ends in a run of no levels, whichever they are
pub record EndsInRun (b : List Level) (last : Level) (run : ℕ) : Type 0 where
  pub run_is : run ≡ first_run (reverse b)
  pub last_is : last ≡ get_or (reverse b) 0 last

pub EndsInRun-nil : (y : Level) → EndsInRun [] y 0
EndsInRun-nil y = record { run_is = refl; last_is = refl }

first_run-cons : (x y : Level) (r : List Level) → y ≡ get_or r 0 y → first_run (x ∷ r) ≡ run_after y (first_run r) x
first_run-cons Dominant Dominant [] h = refl
first_run-cons Recessive Recessive [] h = refl
first_run-cons Dominant Recessive [] h = refl
first_run-cons Recessive Dominant [] h = refl
first_run-cons x y (z ∷ r) h = subst (λ w. first_run (x ∷ z ∷ r) ≡ run_after w (first_run (z ∷ r)) x) (sym h) (at_first x z)
  where
    at_first : (x z : Level) → first_run (x ∷ z ∷ r) ≡ run_after z (first_run (z ∷ r)) x
    at_first Dominant Dominant = omega arith
    at_first Recessive Recessive = omega arith
    at_first Dominant Recessive = refl
    at_first Recessive Dominant = refl

pub EndsInRun-push : (b : List Level) (last : Level) (run : ℕ) (x : Level) → EndsInRun b last run → EndsInRun (b ++ x ∷ []) x (run_after last run x)
EndsInRun-push b last run x h =
    let turned : reverse (b ++ x ∷ []) ≡ x ∷ reverse b = reverse-append b (x ∷ []) in record {
      run_is = ap (λ k. run_after last k x) h.run_is ∙ sym (first_run-cons x last (reverse b) h.last_is) ∙ sym (ap first_run turned);
      last_is = sym (ap (λ t. get_or t 0 x) turned);
    }

module _ (b : List Level) (last : Level) (run : ℕ) (h : EndsInRun b last run) where
  pub is_due-short : run < 5 → is_due b ≡ false
  is_due-short short = is_due-reverse b ∙ begins_with_five-short (reverse b) (omega (arith, h.run_is))

  pub is_due-long : 5 ≤ run → is_due b ≡ true
  is_due-long long = is_due-reverse b ∙ begins_with_five-long (reverse b) (omega (arith, h.run_is))

  -- the level before the place of a stuff bit
  pub last_before : is_due b ≡ true → last ≡ get_or b (length b - 1) Dominant
  last_before due =
      let some : 0 < length b = nonempty_from_due b due in
      let e : length b - 1 - 0 ≡ length b - 1 = omega arith in
      h.last_is ∙ get_or-reverse b 0 last some ∙ ap (λ k. get_or b k last) e ∙ get_or_default b (length b - 1) last Dominant (omega arith)

pub run_after-le : (last : Level) (run : ℕ) (x : Level) → run_after last run x ≤ run + 1
run_after-le last run x = elim (same x last) as (λ t. cond t (run + 1) 1 ≤ run + 1) [ true ↦ omega arith | false ↦ omega arith ]

pub run_after-ge : (last : Level) (run : ℕ) (x : Level) → 1 ≤ run_after last run x
run_after-ge last run x = elim (same x last) as (λ t. 1 ≤ cond t (run + 1) 1) [ true ↦ omega arith | false ↦ omega arith ]

pub same_opposite : (y : Level) → same (opposite y) y ≡ false
same_opposite Dominant = refl
same_opposite Recessive = refl

pub opposite_other : (y : Level) → opposite y ≢ y
opposite_other Dominant = λ h. cc
opposite_other Recessive = λ h. cc

-- the other level begins a run
pub run_after-opposite : (last : Level) (run : ℕ) → run_after last run (opposite last) ≡ 1
run_after-opposite last run = ap (λ t. cond t (run + 1) 1) (same_opposite last)
