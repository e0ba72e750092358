-- Fronts that go on to the end of a stuffed part, level by level.
use Rattle.std.proofs.Common.{◌≡◌, ◌≢◌, ℕ, ◌+◌, ◌<◌, false, ◌&&◌, List, [], ◌∷◌, ◌++◌, length, take, refl, sym, ◌∙◌, ap, subst, arith, append_assoc, length-append, ◌⊎◌, inl, inr}
use Rattle.std.proofs.Math.Dec.{eqb}
use Rattle.std.proofs.lemmas.List.{append-nil, take_at}
use Rattle.std.proofs.lemmas.Bool.{cases_eq, cond-true, cond-false, eq-eqb, ne_eqb}
use Rattle.can_frame.specs.declared.level.Level.{Level}
use Rattle.can_frame.specs.declared.level.Level.TheVariants.{Dominant, Recessive}
use Rattle.can_frame.specs.Levels.{same, opposite}
use Rattle.can_wire.specs.Stuffing.{run_after}
use Rattle.can_wire.specs.Layout.{IsPart}
use Rattle.can_wire.proofs.Runs.{opposite_other, run_after-opposite}
use Rattle.can_code.specs.Front.{FrontParts, is_stuff_error, heard_level}
use Rattle.can_code.proofs.FrontsOf.{IsFrontOf, IsFrontOf-heard_level}
use Rattle.can_code.proofs.HeardLevels.{IsFrontOf-goes_on}
use Rattle.can_code.proofs.PartFronts.{front_made, opposite_from, part-front}

-- some levels have made the front f, and the levels xs after them complete the stuffed part of u
pub record Completes (f : FrontParts) (xs u : List Level) : Type 0 where
  pub before : List Level
  pub made : IsFrontOf before f
  pub part : IsPart u (before ++ xs)

-- the front by its parts
abbrev pub front : List Level → Level → ℕ → FrontParts
front v last run = record { unstuffed = v; last = last; run = run }

-- no level is left
pub Completes-nil : (f : FrontParts) (u : List Level) → Completes f [] u → u ≡ f.unstuffed
Completes-nil f u c =
    let whole = subst (IsPart u) (append-nil c.before) c.part in
    sym whole.stuffs.rest ∙ c.made.inserts.rest

-- the first levels of a stuffed part
pub Completes-begun : (u a xs : List Level) → 0 < length a → IsPart u (a ++ xs) → Completes (front_made a) xs u
Completes-begun u a xs some part =
    let first : take (length a) (a ++ xs) ≡ a = take_at a xs (length a) refl in
    record {
      before = a;
      made = subst (λ t. IsFrontOf t (front_made t)) first (part-front u (a ++ xs) part (length a) some (omega (arith, length-append a xs)));
      part = part;
    }

-- one more level is no wrong stuff bit, and the next front goes on
goes_on : (f : FrontParts) (x : Level) (xs u : List Level) → Completes f (x ∷ xs) u → (is_stuff_error f x ≡ false) × Completes (heard_level f x) xs u
goes_on f x xs u c =
    let on = IsFrontOf-goes_on c.before f u x xs c.made c.part in (
      on.1,
      record {
        before = c.before ++ x ∷ [];
        made = IsFrontOf-heard_level c.before f c.made x on.0 on.1;
        part = subst (IsPart u) (sym (append_assoc c.before (x ∷ []) xs)) c.part;
      },
    )

run_after-same : (l : Level) (k : ℕ) → run_after l k l ≡ k + 1
run_after-same Dominant k = refl
run_after-same Recessive k = refl

-- one of two levels
pub same_or_opposite : (x y : Level) → (x ≡ y) ⊎ (x ≡ opposite y)
same_or_opposite Dominant Dominant = inl refl
same_or_opposite Recessive Recessive = inl refl
same_or_opposite Dominant Recessive = inr refl
same_or_opposite Recessive Dominant = inr refl

module _ (v : List Level) (l : Level) (k : ℕ) (xs u : List Level) where
  -- any level that is no stuff bit
  pub Completes-bit : (x : Level) → k ≢ 5 → Completes (front v l k) (x ∷ xs) u → Completes (front (v ++ x ∷ []) x (run_after l k x)) xs u
  Completes-bit x free c =
      subst (λ f. Completes f xs u) (cond-false (eqb k 5) (front v x 1) (front (v ++ x ∷ []) x (run_after l k x)) (ne_eqb k 5 free)) (goes_on (front v l k) x xs u c).1

  -- the stuff bit
  pub Completes-stuff_bit : (x : Level) → k ≡ 5 → Completes (front v l k) (x ∷ xs) u → (x ≡ opposite l) × Completes (front v x 1) xs u
  Completes-stuff_bit x five c =
      let due = eq-eqb k 5 five in
      let on = goes_on (front v l k) x xs u c in (
        opposite_from x l (sym (ap (λ t. t && same x l) due) ∙ on.0),
        subst (λ f. Completes f xs u) (cond-true (eqb k 5) (front v x 1) (front (v ++ x ∷ []) x (run_after l k x)) due) on.1,
      )

  -- a level that goes on with the run is no stuff bit
  pub Completes-free : Completes (front v l k) (l ∷ xs) u → k ≢ 5
  Completes-free c = λ five. opposite_other l (sym (Completes-stuff_bit l five c).0)

  pub Completes-same : k ≢ 5 → Completes (front v l k) (l ∷ xs) u → Completes (front (v ++ l ∷ []) l (k + 1)) xs u
  Completes-same free c = subst (λ n. Completes (front (v ++ l ∷ []) l n) xs u) (run_after-same l k) (Completes-bit l free c)

  -- the other level begins a run
  pub Completes-other : k ≢ 5 → Completes (front v l k) (opposite l ∷ xs) u → Completes (front (v ++ opposite l ∷ []) (opposite l) 1) xs u
  Completes-other free c = subst (λ n. Completes (front (v ++ opposite l ∷ []) (opposite l) n) xs u) (run_after-opposite l k) (Completes-bit (opposite l) free c)

-- two fronts that end in the same run go on with the same unstuffed levels
pub go_on_together : (xs : List Level) (l : Level) (k : ℕ) (v w u t : List Level) → Completes (front v l k) xs u → Completes (front w l k) xs t → (z : List Level) × (u ≡ v ++ z) × (t ≡ w ++ z)
go_on_together [] l k v w u t c d = ([], Completes-nil (front v l k) u c ∙ sym (append-nil v), Completes-nil (front w l k) t d ∙ sym (append-nil w))
go_on_together (x ∷ xs) l k v w u t c d = elim (cases_eq k 5) [
  | inl five ↦ go_on_together xs x 1 v w u t (Completes-stuff_bit v l k xs u x five c).1 (Completes-stuff_bit w l k xs t x five d).1
  | inr free ↦
      let more =
      go_on_together xs x (run_after l k x) (v ++ x ∷ []) (w ++ x ∷ []) u t (Completes-bit v l k xs u x free c) (Completes-bit w l k xs t x free d) in
      (x ∷ more.0, more.1 ∙ append_assoc v (x ∷ []) more.0, more.2 ∙ append_assoc w (x ∷ []) more.0)
]
