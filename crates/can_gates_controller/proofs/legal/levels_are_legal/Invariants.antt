use Rattle.std.specs.Prelude.{◌≡◌, nat_lt, true, List, length}
use Rattle.can_frame.specs.declared.level.Level.{Level}
use Rattle.can_gates.specs.Circuit.{value, Makes}
use Rattle.can_gates.specs.Words.{number}
use Rattle.can_gates_controller.specs.Fronts.{HoldsLevels}
use Rattle.can_gates_controller.proofs.legal.levels_are_legal.Given as goal

-- whether the places so far go past the levels that are heard, and are legal
abbrev pub invariant-loop-place : goal.invariant-loop-place
invariant-loop-place l = Makes l.fn.circuit l.circuit (λ v. (value v l.behind ≡ nat_lt (number v l.count) l.place) × ((u : List Level) → HoldsLevels v l.levels u → number v l.count ≡ length u → value v l.legal ≡ true))
