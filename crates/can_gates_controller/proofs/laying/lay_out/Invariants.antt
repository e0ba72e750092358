use Rattle.std.specs.Prelude.{◌≡◌, ◌<◌, if◌then◌else◌, ℕ, length, get_or}
use Rattle.can_gates.specs.Circuit.{value, Makes, never}
use Rattle.can_gates_controller.specs.Laying.{standard_list, extended_list}
use Rattle.can_gates_controller.proofs.laying.lay_out.Given as goal

-- what the place p of the levels becomes
abbrev pub invariant-loop-place : goal.invariant-loop-place
invariant-loop-place l =
    (length l.all ≡ 103)
    × Makes l.fn.circuit l.circuit (λ v. (p : ℕ) → p < l.place → value v (get_or l.all p never) ≡ (if value v l.fields.extended then value v (get_or (extended_list l.fields l.bytes) p never) else value v (get_or (standard_list l.fields l.bytes) p never)))
