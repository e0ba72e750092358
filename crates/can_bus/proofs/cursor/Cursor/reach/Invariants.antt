use Rattle.std.proofs.Common.{length, ◌-◌}
use Rattle.can_bus.specs.Walks.{AreBelow}
use Rattle.can_bus.proofs.cursor.Cursor.reach.Given as goal

abbrev pub invariant-loop-self : goal.invariant-loop-self
invariant-loop-self l = AreBelow l.hits l.self.place l.hit

abbrev pub decreases-loop-self : goal.decreases-loop-self
decreases-loop-self l = length l.hits - l.self.place
