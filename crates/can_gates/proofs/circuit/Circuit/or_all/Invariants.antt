use Rattle.std.specs.Prelude.{◌∷◌, ◌≡◌, ◌-◌, ◌^◌, if◌then◌else◌, length, take}
use Rattle.can_gates.specs.Circuit.{value, Makes}
use Rattle.can_gates.specs.Lacking.{Serves}
use Rattle.can_gates.specs.Words.{number}
use Rattle.can_gates.proofs.circuit.Circuit.or_all.Given as goal

abbrev pub invariant-loop-place : goal.invariant-loop-place
invariant-loop-place g l =
    Serves l.fn.self l.self (l.fn.over ∷ l.word) l.all
    × ((length l.all ≡ g.row.N) × Makes l.fn.self l.self (λ v. number v (take l.place l.all) ≡ (if value v l.fn.over then 2 ^ l.place - 1 else number v (take l.place l.word))))
