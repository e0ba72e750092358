use Rattle.std.specs.Prelude.{◌≡◌, get_or}
use Rattle.can_gates.specs.Circuit.{value, Makes, never}
use Rattle.can_gates_controller.proofs.Checks.{any_of}
use Rattle.can_gates_controller.proofs.check.agrees.Given as goal

-- whether one of the places so far is recessive
abbrev pub invariant-loop-place : goal.invariant-loop-place
invariant-loop-place l = Makes l.fn.circuit l.circuit (λ v. value v l.some ≡ any_of (λ p. value v (get_or l.check p never)) l.place)
