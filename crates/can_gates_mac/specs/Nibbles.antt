-- The number below 16 of four literals.
use Rattle.std.specs.Prelude.{ℕ, Bool, [], ◌∷◌}
use Rattle.can_gates.specs.Words.{number}
use Rattle.can_gates_mac.specs.declared.nibble.Nibble.{Nibble}

unfoldable pub nibble : (ℕ → Bool) → Nibble → ℕ
nibble v n = number v (n.ones ∷ n.twos ∷ n.fours ∷ n.eights ∷ [])
