use Rattle.can_gates.specs.Circuit.{never}
use Rattle.std.proofs.Common.{◌≡◌, ◌<◌, ℕ, drop, length, get_or}
use Rattle.can_gates_controller.specs.Laying.{turned_bytes}
use Rattle.can_gates_controller.proofs.turning.turn_bytes.Given as goal

-- the places so far
abbrev pub invariant-loop-place : goal.invariant-loop-place
invariant-loop-place l =
    (length l.all ≡ 64) × ((p : ℕ) → p < l.place → get_or l.all p never ≡ get_or (turned_bytes 8 (drop l.fn.first l.items)) p never)
