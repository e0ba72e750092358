use Rattle.std.specs.Prelude.{◌≡◌, ◌<◌, if◌then◌else◌, ℕ, length, get_or}
use Rattle.can_gates.specs.Circuit.{value, Makes, never}
use Rattle.can_gates_controller.proofs.levels.choose_levels.Given as goal

-- what the place p of the levels becomes
abbrev pub invariant-loop-place : goal.invariant-loop-place
invariant-loop-place g l =
    (length l.all ≡ g.row.N)
    × Makes l.fn.circuit l.circuit (λ v. (p : ℕ) → p < l.place → value v (get_or l.all p never) ≡ (if value v l.fn.test then value v (get_or l.a p never) else value v (get_or l.b p never)))
