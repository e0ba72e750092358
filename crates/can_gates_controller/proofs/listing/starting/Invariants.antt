use Rattle.can_gates.specs.Circuit.{never}
use Rattle.std.specs.Prelude.{◌≡◌, ◌<◌, ℕ, false, length, get_or}
use Rattle.can_gates_controller.specs.Stepped.{IsRegister}
use Rattle.can_gates_controller.proofs.listing.starting.Given as goal

-- the registers so far
abbrev pub invariant-loop-place : goal.invariant-loop-place
invariant-loop-place l =
    (length l.all.items ≡ l.place)
    × ((i : ℕ) → i < l.place → IsRegister (get_or l.all.items i (record { next = never; starts = false })) (get_or l.next i never))
