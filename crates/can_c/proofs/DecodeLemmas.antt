-- The levels that a decoding looks at, and what it found there.
use Rattle.std.proofs.Common.{◌≡◌, ℕ, List, Result, Ok, take, sym, ◌∙◌}
use Rattle.std.proofs.lemmas.List.{take-map}
use Rattle.can_frame.specs.declared.level.Level.{Level}
use Rattle.can_frame.specs.Levels.{level_of, levels_of_codes}

-- they are the first 157
pub first_levels : (codes : List ℕ) (levels looked_at : List Level) → levels ≡ levels_of_codes (take 157 codes) → looked_at ≡ levels → looked_at ≡ take 157 (levels_of_codes codes)
first_levels codes levels looked_at are_levels same = same ∙ are_levels ∙ sym (take-map level_of 157 codes)

-- what was found is one
pub one_found : {A E : Type 0} (r : Result A E) (x y : A) → r ≡ Ok x → r ≡ Ok y → x ≡ y
one_found r x y is so = cc
