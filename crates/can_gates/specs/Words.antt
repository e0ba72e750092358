-- The numbers of words. A word is a list of literals, the lowest bit first.
use Rattle.std.specs.Prelude.{ℕ, ◌+◌, ◌*◌, Bool, true, false, List, [], ◌∷◌}
use Rattle.can_gates.specs.declared.literal.Literal.{Literal}
use Rattle.can_gates.specs.Circuit.{value}

-- the number of a truth value
abbrev pub bit : Bool → ℕ
bit false = 0
bit true = 1

-- the number of a word under an assignment
abbrev pub number : (ℕ → Bool) → List Literal → ℕ
number v [] = 0
number v (l ∷ word) = bit (value v l) + 2 * number v word
