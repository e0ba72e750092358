-- The assignment that gates make from the values of the inputs. The list has the last gate first.
use Rattle.std.specs.Prelude.{ℕ, ◌==◌, Bool, ◌&&◌, if◌then◌else◌, List, [], ◌∷◌}
use Rattle.can_gates.specs.declared.circuit.Gate.{Gate}
use Rattle.can_gates.specs.Circuit.{value}

abbrev pub run : List Gate → (ℕ → Bool) → ℕ → Bool
run [] inputs = inputs
run (g ∷ gates) inputs = λ s. if s == g.signal then value (run gates inputs) g.left && value (run gates inputs) g.right else run gates inputs s
