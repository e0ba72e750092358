-- The demands on a document, in the order in which they are tested. (docs/FORMATS.md, docs/CONFORMANCE.md)
use Rattle.std.specs.Prelude.{◌≡◌, ◌⊎◌, ℕ, ◌+◌, List, [], ◌∷◌}

-- demands in the order in which they are tested, each with the field that is reported if it is not met
pub data Demands (F : Type 0) : Type 1 where
  no_demands : Demands F
  demand : F → Type 0 → Demands F → Demands F

-- these demands, and then those
abbrev pub followed : {F : Type 0} → Demands F → Demands F → Demands F
followed no_demands later = later
followed (demand told met rest) later = demand told met (followed rest later)

-- the demands on each element, one after another; the first element has index `place`
abbrev pub demands_on_each : {F A : Type 0} → (ℕ → A → Demands F) → ℕ → List A → Demands F
demands_on_each one place [] = no_demands
demands_on_each one place (d ∷ ds) = followed (one place d) (demands_on_each one (place + 1) ds)

-- all demands are met
abbrev pub AllMet : {F : Type 0} → Demands F → Type 0
AllMet no_demands = Unit {0}
AllMet (demand told met rest) = met × AllMet rest

-- the first demand that is not met has this field
abbrev pub IsFirstUnmet : {F : Type 0} → F → Demands F → Type 0
IsFirstUnmet wrong no_demands = ⊥
IsFirstUnmet wrong (demand told met rest) = ((told ≡ wrong) × ¬ met) ⊎ (met × IsFirstUnmet wrong rest)
