use Rattle.std.specs.Prelude.{◌≡◌, ◌<◌, if◌then◌else◌, ℕ, length, get_or}
use Rattle.can_gates.specs.Circuit.{value, Makes, never}
use Rattle.can_gates_controller.specs.Laying.{long_list, short_list}
use Rattle.can_gates_controller.proofs.telling.identifier_of.Given as goal

-- what the place p of the identifier becomes
abbrev pub invariant-loop-place : goal.invariant-loop-place
invariant-loop-place l =
    (length l.word ≡ 29)
    × Makes l.fn.circuit l.circuit (λ v. (p : ℕ) → p < l.place → value v (get_or l.word p never) ≡ (if value v l.fn.extended then value v (get_or (long_list l.levels) p never) else value v (get_or (short_list l.levels) p never)))
