use Rattle.can_bus.proofs.CheckLemmas.{AreSoundBefore, HoldsBefore}
use Rattle.can_bus.proofs.check.check.Given as goal

abbrev pub invariant-loop-place : goal.invariant-loop-place
invariant-loop-place g l = AreSoundBefore g.I.Input.follows g.I.Input.names l.ports l.inputs l.place × HoldsBefore l.inputs (λ n input. g.I.Input.IsKnown input) l.place
