use Rattle.std.specs.Prelude.{◌≡◌, length}
use Rattle.can_gates_controller.specs.Listed.{AreSignals}
use Rattle.can_gates_controller.proofs.signals.signals.Given as goal

-- the signals so far
abbrev pub invariant-loop-place : goal.invariant-loop-place
invariant-loop-place g l = (length l.word ≡ g.row.N) × AreSignals l.first l.place l.word
