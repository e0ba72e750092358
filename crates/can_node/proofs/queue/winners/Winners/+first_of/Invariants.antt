use Rattle.std.proofs.Common.{◌-◌, length}
use Rattle.can_node.proofs.queue.winners.Winners.+first_of.Given as goal

abbrev pub decreases-first_of : goal.decreases-first_of
decreases-first_of l = length l.self.now.entrants.items - l.node
