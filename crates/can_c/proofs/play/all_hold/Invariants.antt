use Rattle.can_c.proofs.HandleLists.{HoldSoFar}
use Rattle.can_c.proofs.play.all_hold.Given as goal

abbrev pub invariant-loop-handle : goal.invariant-loop-handle
invariant-loop-handle l = HoldSoFar l.fn.handles l.handles l.handle-index
