use Rattle.std.specs.Prelude.{◌≡◌, ◌<◌, ◌==◌, ◌&&◌, ◌||◌, ℕ, length, get_or}
use Rattle.can_gates.specs.Circuit.{value, Makes, never}
use Rattle.can_gates.specs.Words.{number}
use Rattle.can_gates_controller.proofs.front.written.Given as goal

-- what the place p of the levels becomes
abbrev pub invariant-loop-place : goal.invariant-loop-place
invariant-loop-place l =
    (length l.all ≡ 103)
    × Makes l.fn.circuit l.circuit (λ v. (p : ℕ) → p < l.place → value v (get_or l.all p never) ≡ (value v (get_or l.levels p never) || ((number v l.count == p) && value v l.fn.level)))
