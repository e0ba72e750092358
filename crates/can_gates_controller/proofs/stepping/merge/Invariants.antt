use Rattle.std.specs.Prelude.{◌≡◌, ◌<◌, ◌==◌, ◌&&◌, ◌||◌, ℕ, length, get_or}
use Rattle.can_gates.specs.Circuit.{value, Makes, never}
use Rattle.can_gates_controller.specs.Listed.{register_list}
use Rattle.can_gates_controller.proofs.stepping.merge.Given as goal

-- what the place p of the levels becomes
abbrev pub invariant-loop-place : goal.invariant-loop-place
invariant-loop-place l =
    (length l.all ≡ 277)
    × Makes l.fn.circuit l.circuit (λ v. (p : ℕ) → p < l.place → value v (get_or l.all p never) ≡ (((value v l.fn.passes && value v (get_or (register_list l.next) p never)) || (value v l.fn.rests && value v (get_or (register_list l.held) p never))) || (p == 0 && value v l.fn.integrating)))
