use Rattle.std.specs.Prelude.{◌≡◌, ◌<◌, ◌/◌, ◌&&◌, ℕ, nat_lt, length, get_or}
use Rattle.can_frame.specs.Parts.{byte_count}
use Rattle.can_gates.specs.Circuit.{value, Makes, never}
use Rattle.can_gates_mac.specs.Nibbles.{nibble}
use Rattle.can_gates_controller.proofs.fields.clear_behind.Given as goal

-- what the place p becomes
abbrev pub invariant-loop-place : goal.invariant-loop-place
invariant-loop-place l =
    (length l.all ≡ 64)
    × Makes l.fn.circuit l.circuit (λ v. (p : ℕ) → p < l.place → value v (get_or l.all p never) ≡ (nat_lt (p / 8) (byte_count (value v l.fn.remote) (nibble v l.fn.dlc)) && value v (get_or l.bytes p never)))
