-- Recessive levels in a row.
use Rattle.std.proofs.Common.{◌≡◌, ℕ, suc, ◌+◌, ◌-◌, ◌≤◌, List, [], ◌∷◌, ◌++◌, length, take, drop, replicate, refl, sym, ◌∙◌, ap, arith, append-nil, append_assoc, length-append}
use Rattle.std.proofs.lemmas.List.{replicate-append-replicate, length-take, take-append-drop, take_at, drop_at}
use Rattle.can_frame.specs.declared.level.Level.{Level}
use Rattle.can_frame.specs.declared.level.Level.TheVariants.{Recessive}
use Rattle.can_node.specs.Listening.{RestsBetween}

-- the last n levels are recessive
abbrev pub EndsInRest : ℕ → List Level → Type 0
EndsInRest n levels = (before : List Level) × (levels ≡ before ++ replicate n Recessive)

-- there are ten recessive levels in a row
abbrev pub HasRested : List Level → Type 0
HasRested levels = (before : List Level) × (after : List Level) × (levels ≡ before ++ (replicate 10 Recessive ++ after))

-- none of them need be there
pub EndsInRest-none : (levels : List Level) → EndsInRest 0 levels
EndsInRest-none levels = (levels, sym (append-nil levels))

-- one recessive level more
pub EndsInRest-more : (n : ℕ) (levels : List Level) → EndsInRest n levels → EndsInRest (n + 1) (levels ++ Recessive ∷ [])
EndsInRest-more n levels h =
    let row = replicate n Recessive in
    (h.0, ap (λ l. l ++ Recessive ∷ []) h.1 ∙ append_assoc h.0 row (Recessive ∷ []) ∙ ap (λ l. h.0 ++ l) (replicate-append-replicate n 1 Recessive))

-- fewer of them
pub EndsInRest-fewer : (m n : ℕ) (levels : List Level) → m ≤ n → EndsInRest n levels → EndsInRest m levels
EndsInRest-fewer m n levels fewer h =
    let size : (n - m) + m ≡ n = omega arith in
    let front = replicate (n - m) Recessive in
    let row = replicate m Recessive in (
      h.0 ++ front,
      h.1 ∙ ap (λ k. h.0 ++ replicate k Recessive) (sym size) ∙ ap (λ l. h.0 ++ l) (sym (replicate-append-replicate (n - m) m Recessive)) ∙ sym (append_assoc h.0 front row),
    )

-- a row of ten or more is a rest
pub HasRested-ends : (n : ℕ) (levels : List Level) → 10 ≤ n → EndsInRest n levels → HasRested levels
HasRested-ends n levels long h =
    let size : 10 + (n - 10) ≡ n = omega arith in
    (h.0, replicate (n - 10) Recessive, h.1 ∙ ap (λ k. h.0 ++ replicate k Recessive) (sym size) ∙ ap (λ l. h.0 ++ l) (sym (replicate-append-replicate 10 (n - 10) Recessive)))

-- a rest stays
pub HasRested-append : (levels more : List Level) → HasRested levels → HasRested (levels ++ more)
HasRested-append levels more h =
    let row = replicate 10 Recessive in
    (h.0, h.1 ++ more, ap (λ l. l ++ more) h.2 ∙ append_assoc h.0 (row ++ h.1) more ∙ ap (λ l. h.0 ++ l) (append_assoc row h.1 more))

-- ten recessive levels among the first t levels that follow another one are between its time and that of the next
pub RestsBetween-first : (first : Level) (levels : List Level) (t : ℕ) → HasRested (take t levels) → RestsBetween (first ∷ levels) 0 (suc t)
RestsBetween-first first levels t h =
    let row = replicate 10 Recessive in
    let behind = h.1 ++ drop t levels in
    let whole : levels ≡ h.0 ++ (row ++ behind) =
    sym (take-append-drop t levels) ∙ ap (λ l. l ++ drop t levels) h.2 ∙ append_assoc h.0 (row ++ h.1) (drop t levels)
    ∙ ap (λ l. h.0 ++ l) (append_assoc row h.1 (drop t levels)) in (
      suc (length h.0),
      omega arith,
      omega (arith, ap length h.2, length-take t levels, length-append h.0 (row ++ h.1), length-append row h.1),
      ap (λ l. take 10 (drop (length h.0) l)) whole ∙ ap (take 10) (drop_at h.0 (row ++ behind) (length h.0) refl) ∙ take_at row behind 10 refl,
    )

-- one level more in front
pub RestsBetween-more : (first : Level) (levels : List Level) (s t : ℕ) → RestsBetween levels s t → RestsBetween (first ∷ levels) (suc s) (suc t)
RestsBetween-more first levels s t h = (suc h.0, omega (arith, h.1), omega (arith, h.2), h.3)
