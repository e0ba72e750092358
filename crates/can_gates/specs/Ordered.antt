-- The order of a circuit's gates, the last first: that of AIGER's binary format.
use Rattle.std.specs.Prelude.{ℕ, ◌≡◌, ◌+◌, ◌<◌, ◌≤◌, List, [], ◌∷◌}
use Rattle.can_gates.specs.declared.circuit.Gate.{Gate}
use Rattle.can_gates.specs.Aiger.{literal_code}

-- after the inputs, which come first, each gate makes the next signal, of two earlier ones; the literal with the greater number is its left side. The
-- last gate makes the highest signal
abbrev pub IsOrdered : ℕ → ℕ → List Gate → Type 0
IsOrdered inputs highest [] = highest ≡ inputs
IsOrdered inputs highest (g ∷ gates) =
    (g.signal ≡ highest) × (g.left.signal < g.signal) × (g.right.signal < g.signal) ×
    (below : ℕ) × (g.signal ≡ below + 1) × IsOrdered inputs below gates × (literal_code g.right ≤ literal_code g.left)
