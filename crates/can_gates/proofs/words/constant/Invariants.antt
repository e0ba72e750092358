use Rattle.std.specs.Prelude.{◌≡◌, ◌+◌, ◌*◌, ◌^◌, ℕ, Bool, false, length, take}
use Rattle.can_gates.specs.Words.{number}
use Rattle.can_gates.proofs.words.constant.Given as goal

-- the places so far, and what is left of the number above them
abbrev pub invariant-loop-place : goal.invariant-loop-place
invariant-loop-place g l = (length l.word ≡ g.row.N) × ((v : ℕ → Bool) → v 0 ≡ false → number v (take l.place l.word) + 2 ^ l.place * l.rest ≡ l.fn.of)
