use Rattle.std.specs.Prelude.{◌≡◌, ◌<◌, ◌++◌, ◌∷◌, [], ℕ, List, length, get_or}
use Rattle.can_frame.specs.declared.level.Level.{Level}
use Rattle.can_frame.specs.Levels.{is_recessive}
use Rattle.can_wire.specs.Crc.{crc_of}
use Rattle.can_wire.specs.Layout.{level_at}
use Rattle.can_gates.specs.Circuit.{value, Makes, differ, never}
use Rattle.can_gates_controller.specs.Fronts.{HoldsCheck}
use Rattle.can_gates_controller.proofs.check.divided.Given as goal

-- what the place p becomes
abbrev pub invariant-loop-place : goal.invariant-loop-place
invariant-loop-place l =
    (length l.all ≡ 15)
    × Makes l.fn.circuit l.circuit (λ v. (u : List Level) (x : Level) → HoldsCheck v l.check u → value v l.fn.fed ≡ differ (is_recessive (level_at (crc_of u) 0)) (is_recessive x) → (p : ℕ) → p < l.place → value v (get_or l.all p never) ≡ is_recessive (level_at (crc_of (u ++ x ∷ [])) p))
