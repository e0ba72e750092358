-- Definitions computed on hand-computed test vectors.
use Rattle.std.proofs.Common.{◌≡◌, ℕ, false, List, [], ◌∷◌, map, codes, refl}
use Rattle.can_gates.specs.declared.literal.Literal.{Literal}
use Rattle.cangates.specs.Ports.{literals_of, sized}

abbrev plain : ℕ → Literal
plain s = record { signal = s; negated = false }

-- bus is signal 4, and overload_count signals 6 and 7
abbrev two_words : List (List ℕ × List Literal)
two_words = (codes "bus", plain 4 ∷ []) ∷ (codes "overload_count", plain 6 ∷ plain 7 ∷ []) ∷ []

all_three : literals_of two_words ≡ plain 4 ∷ plain 6 ∷ plain 7 ∷ []
all_three = refl

their_places : map sized two_words ≡ (codes "bus", 1) ∷ (codes "overload_count", 2) ∷ []
their_places = refl
