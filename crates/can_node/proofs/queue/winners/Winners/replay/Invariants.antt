use Rattle.std.proofs.Common.{◌≡◌, ◌<◌, ◌*◌, length}
use Rattle.std.specs.Prelude.{vec_capacity}
use Rattle.can_node.specs.Tournament.{IsPlayedBut}
use Rattle.can_node.proofs.queue.winners.Winners.replay.Given as goal

-- only at the node over this one there may be another winner
abbrev pub invariant-loop-node : goal.invariant-loop-node
invariant-loop-node l = record {
  played : IsPlayedBut l.node l.self.entrants.items l.slots;
  within : l.node < 2 * length l.self.entrants.items;
  width : length l.self.entrants.items ≡ length l.initial.self.entrants.items;
  capacity : vec_capacity l.self.entrants ≡ vec_capacity l.initial.self.entrants;
}

abbrev pub decreases-loop-node : goal.decreases-loop-node
decreases-loop-node l = l.node
