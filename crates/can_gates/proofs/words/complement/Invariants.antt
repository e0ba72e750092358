use Rattle.std.specs.Prelude.{◌≡◌, ◌+◌, ◌^◌, ℕ, Bool, false, length, take}
use Rattle.can_gates.specs.Circuit.{CircuitParts}
use Rattle.can_gates.specs.Lacking.{HasSignals}
use Rattle.can_gates.specs.Words.{number}
use Rattle.can_gates.proofs.words.complement.Given as goal

abbrev pub invariant-loop-place : goal.invariant-loop-place
invariant-loop-place g l =
    ((c : CircuitParts) → HasSignals c l.word → HasSignals c l.all)
    × ((length l.all ≡ g.row.N) × ((v : ℕ → Bool) → v 0 ≡ false → number v (take l.place l.all) + number v (take l.place l.word) + 1 ≡ 2 ^ l.place))
