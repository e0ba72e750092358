-- Lines with at least one number, and only numbers below 2^64.
use Rattle.std.specs.Prelude.{ℕ, ◌^◌, ◌<◌, List, [], ◌∷◌}

abbrev pub AreSmall : List ℕ → Type 0
AreSmall [] = Unit {0}
AreSmall (n ∷ ns) = (n < 2 ^ 64) × AreSmall ns

abbrev pub IsNumberLine : List ℕ → Type 0
IsNumberLine [] = ⊥
IsNumberLine (n ∷ ns) = (n < 2 ^ 64) × AreSmall ns

abbrev pub AreLines : List (List ℕ) → Type 0
AreLines [] = Unit {0}
AreLines (l ∷ lines) = IsNumberLine l × AreLines lines
