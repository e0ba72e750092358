-- A wire without disturbances, with machines of any kind on it, over levels that it is known to have.
use Rattle.std.proofs.Common.{◌≡◌, ℕ, zero, suc, ◌<◌, List, [], ◌∷◌, length, map, take, sym, subst, arith}
use Rattle.std.proofs.lemmas.List.{length-map}
use Rattle.can_frame.specs.declared.level.Level.{Level}
use Rattle.can_wire.specs.Layout.{level_at}
use Rattle.can_bus.specs.Wired.{over}
pub use Rattle.can_bus.specs.Passing.{rest_run}
use Rattle.can_bus.proofs.Reduction.{Gives, Leads, Joins}

-- each level is seen as it is on the wire
abbrev pub undisturbed : List Level → List (Level × Level)
undisturbed levels = map (λ x. (x, x)) levels

pub length-undisturbed : (levels : List Level) → length (undisturbed levels) ≡ length levels
length-undisturbed levels = length-map levels (λ x. (x, x))

-- the machines after these levels
abbrev pub all_after : {M : Type 0} → (Level → M → M) → List Level → List M → List M
all_after step [] ms = ms
all_after step (x ∷ levels) ms = all_after step levels (map (step x) ms)

module _ {M : Type 0} (drive : M → Level) (step : Level → M → M) where
  -- the first of these levels
  pub gives-take : (n : ℕ) (levels : List Level) (ms : List M) → Gives drive step (undisturbed levels) ms → Gives drive step (undisturbed (take n levels)) ms
  gives-take zero [] ms h = tt
  gives-take zero (x ∷ levels) ms h = tt
  gives-take (suc n) [] ms h = tt
  gives-take (suc n) (x ∷ levels) ms h = (h.0, gives-take n levels (map (step x) ms) h.1)

  -- a machine that goes through known states leads, or joins
  pub leads-through : (levels own : List Level) (s : ℕ → M) → length own ≡ length levels → ((o : ℕ) → o < length levels → step (level_at levels o) (s o) ≡ s (suc o)) →
      ((o : ℕ) → o < length levels → drive (s o) ≡ level_at own o) → Leads drive step (undisturbed levels) own (s 0)
  leads-through [] own s long steps drives = tt
  leads-through (x ∷ levels) [] s long steps drives = absurd (omega (arith, long))
  leads-through (x ∷ levels) (y ∷ own) s long steps drives = (
    drives 0 (omega arith),
    subst (Leads drive step (undisturbed levels) own) (sym (steps 0 (omega arith)))
        (leads-through levels own (λ o. s (suc o)) (omega (arith, long)) (λ o within. steps (suc o) (omega (arith, within))) (λ o within. drives (suc o) (omega (arith, within)))),
  )

  pub joins-through : (levels own : List Level) (s : ℕ → M) → length own ≡ length levels → ((o : ℕ) → o < length levels → step (level_at levels o) (s o) ≡ s (suc o)) →
      ((o : ℕ) → o < length levels → over (level_at own o) (drive (s o)) ≡ level_at levels o) → Joins drive step (undisturbed levels) own (s 0)
  joins-through [] own s long steps drives = tt
  joins-through (x ∷ levels) [] s long steps drives = absurd (omega (arith, long))
  joins-through (x ∷ levels) (y ∷ own) s long steps drives = (
    drives 0 (omega arith),
    subst (Joins drive step (undisturbed levels) own) (sym (steps 0 (omega arith)))
        (joins-through levels own (λ o. s (suc o)) (omega (arith, long)) (λ o within. steps (suc o) (omega (arith, within))) (λ o within. drives (suc o) (omega (arith, within)))),
  )
