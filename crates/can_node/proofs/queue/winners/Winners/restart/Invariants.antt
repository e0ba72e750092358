use Rattle.std.proofs.Common.{◌≡◌, ◌≤◌, ◌<◌, ℕ, length}
use Rattle.std.specs.Prelude.{vec_capacity}
use Rattle.can_node.specs.Tournament.{IsPlayedAt}
use Rattle.can_node.proofs.queue.winners.Winners.restart.Given as goal

-- from this node on all were played
abbrev pub invariant-loop-node : goal.invariant-loop-node
invariant-loop-node l = record {
  played : (n : ℕ) → l.node ≤ n → n < length l.self.entrants.items → IsPlayedAt l.self.entrants.items l.slots n;
  width : length l.self.entrants.items ≡ l.width;
  within : l.node ≤ l.width;
  capacity : vec_capacity l.fn.self.entrants ≤ vec_capacity l.self.entrants;
}

abbrev pub decreases-loop-node : goal.decreases-loop-node
decreases-loop-node l = l.node
