use Rattle.std.specs.Prelude.{◌++◌, [], ◌∷◌, ◌≡◌, nat_lt, take}
use Rattle.can_gates.specs.Circuit.{value, Makes}
use Rattle.can_gates.specs.Lacking.{Serves}
use Rattle.can_gates.specs.Words.{number}
use Rattle.can_gates.proofs.circuit.Circuit.less.Given as goal

abbrev pub invariant-loop-place : goal.invariant-loop-place
invariant-loop-place l =
    Serves l.fn.self l.self (l.a ++ l.b) (l.less ∷ [])
    × (Makes l.fn.self l.self (λ v. value v l.less ≡ nat_lt (number v (take l.place l.a)) (number v (take l.place l.b))))
