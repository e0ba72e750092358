-- Demands one after another, and the elements of arrays.
use Rattle.std.proofs.Common.{◌≡◌, List, [], ◌∷◌, map, refl, sym, ap, ◌∙◌, inl, inr}
use Rattle.toml.specs.View.{view, items_view}
use Rattle.toml.specs.declared.value.Value.{Value}
use Rattle.document_values.specs.Demands.{Demands, no_demands, demand, followed, AllMet, IsFirstUnmet}
use Rattle.document_values.specs.Values.{elements_of}

-- all of both are met
pub met-followed : {F : Type 0} (first later : Demands F) → AllMet first → AllMet later → AllMet (followed first later)
met-followed no_demands later a b = b
met-followed (demand told met rest) later a b = (a.0, met-followed rest later a.1 b)

-- the first that isn't met is among the first
pub unmet-first : {F : Type 0} (wrong : F) (first later : Demands F) → IsFirstUnmet wrong first → IsFirstUnmet wrong (followed first later)
unmet-first wrong no_demands later u = absurd u
unmet-first wrong (demand told met rest) later (inl here) = inl here
unmet-first wrong (demand told met rest) later (inr behind) = inr (behind.0, unmet-first wrong rest later behind.1)

-- all of the first are met, and it is among the later ones
pub unmet-later : {F : Type 0} (wrong : F) (first later : Demands F) → AllMet first → IsFirstUnmet wrong later → IsFirstUnmet wrong (followed first later)
unmet-later wrong no_demands later a u = u
unmet-later wrong (demand told met rest) later a u = inr (a.0, unmet-later wrong rest later a.1 u)

-- if all are met, none is the first that is not
pub met-unmet : {F : Type 0} (wrong : F) (demands : Demands F) → AllMet demands → IsFirstUnmet wrong demands → ⊥
met-unmet wrong no_demands all u = u
met-unmet wrong (demand told met rest) all (inl here) = here.1 all.0
met-unmet wrong (demand told met rest) all (inr behind) = met-unmet wrong rest all.1 behind.1

-- the first that isn't met is one
pub one-unmet : {F : Type 0} (wrong other : F) (demands : Demands F) → IsFirstUnmet wrong demands → IsFirstUnmet other demands → wrong ≡ other
one-unmet wrong other no_demands u v = absurd u
one-unmet wrong other (demand told met rest) (inl a) (inl b) = sym a.0 ∙ b.0
one-unmet wrong other (demand told met rest) (inl a) (inr b) = absurd (a.1 b.0)
one-unmet wrong other (demand told met rest) (inr a) (inl b) = absurd (b.1 a.0)
one-unmet wrong other (demand told met rest) (inr a) (inr b) = one-unmet wrong other rest a.1 b.1

-- the elements of an array are its values
pub elements-view : (values : List Value) → elements_of (items_view values) ≡ map view values
elements-view [] = refl
elements-view (v ∷ values) = ap (λ ds. view v ∷ ds) (elements-view values)
