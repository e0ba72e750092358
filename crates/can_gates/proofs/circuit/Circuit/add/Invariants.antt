use Rattle.std.specs.Prelude.{◌++◌, ◌∷◌, ◌≡◌, ◌+◌, ◌*◌, ◌^◌, length, take}
use Rattle.can_gates.specs.Circuit.{value, Makes}
use Rattle.can_gates.specs.Lacking.{Serves}
use Rattle.can_gates.specs.Words.{number, bit}
use Rattle.can_gates.proofs.circuit.Circuit.add.Given as goal

-- the places so far are added
abbrev pub invariant-loop-place : goal.invariant-loop-place
invariant-loop-place g l =
    Serves l.fn.self l.self (l.fn.carry ∷ (l.a ++ l.b)) (l.over ∷ l.word)
    × ((length l.word ≡ g.row.N) × Makes l.fn.self l.self (λ v. number v (take l.place l.word) + 2 ^ l.place * bit (value v l.over) ≡ number v (take l.place l.a) + number v (take l.place l.b) + bit (value v l.fn.carry)))
