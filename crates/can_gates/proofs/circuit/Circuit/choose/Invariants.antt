use Rattle.std.specs.Prelude.{◌++◌, ◌∷◌, ◌≡◌, if◌then◌else◌, length, take}
use Rattle.can_gates.specs.Circuit.{value, Makes}
use Rattle.can_gates.specs.Lacking.{Serves}
use Rattle.can_gates.specs.Words.{number}
use Rattle.can_gates.proofs.circuit.Circuit.choose.Given as goal

abbrev pub invariant-loop-place : goal.invariant-loop-place
invariant-loop-place g l =
    Serves l.fn.self l.self (l.fn.test ∷ (l.a ++ l.b)) l.all
    × ((length l.all ≡ g.row.N) × Makes l.fn.self l.self (λ v. number v (take l.place l.all) ≡ (if value v l.fn.test then number v (take l.place l.a) else number v (take l.place l.b))))
