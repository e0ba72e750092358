use Rattle.std.specs.Prelude.{◌≡◌}
use Rattle.can_gates_controller.specs.Listed.{placed, output_list}
use Rattle.can_gates_controller.proofs.listing.list_outputs.Given as goal

-- the literals so far
abbrev pub invariant-loop-place : goal.invariant-loop-place
invariant-loop-place l = l.all.items ≡ placed l.place (output_list l.k)
