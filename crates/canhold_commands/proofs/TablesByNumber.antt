-- The table with a number in a list.
use Rattle.std.proofs.Common.{◌≡◌, ℕ, List, Some, map, option_map, ap, sym, ◌∙◌}
use Rattle.std.specs.List.{slice_get}
use Rattle.std.proofs.lemmas.Option.{slice_get-map}

-- the view of the element at a place is the element of the view at that place
pub seen-at : {A B : Type 0} (view : A → B) (values : List A) (seen : List B) (number : ℕ) (value : A) → map view values ≡ seen → slice_get values number ≡ Some value → slice_get seen number ≡ Some (view value)
seen-at view values seen number value same at = ap (λ ds. slice_get ds number) (sym same) ∙ slice_get-map view values number ∙ ap (option_map view) at
