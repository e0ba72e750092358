use Rattle.std.specs.Prelude.{◌≡◌, ◌<◌, ℕ, nat_lt, true}
use Rattle.can_gates.specs.Circuit.{value, value_at, Makes}
use Rattle.can_gates.specs.Words.{number}
use Rattle.can_gates_controller.proofs.own_frame.sent_is_legal.Given as goal

-- whether the places so far go past what has been received, and past the end; and whether they are legal
abbrev pub invariant-loop-place : goal.invariant-loop-place
invariant-loop-place l =
    Makes l.fn.circuit l.circuit (λ v.
    (value v l.unheard ≡ nat_lt (number v l.heard.count) l.place) × ((value v l.unused ≡ nat_lt (number v l.end) l.place)
    × (((p : ℕ) → p < number v l.heard.count → p < number v l.end → p < 103 → value_at v l.heard.levels p ≡ value_at v l.own p) → value v l.legal ≡ true)))
