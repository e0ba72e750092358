use Rattle.std.proofs.Common.{◌≡◌, length}
use Rattle.can_c.proofs.play.empty_nodes.Given as goal

abbrev pub invariant-loop : goal.invariant-loop
invariant-loop l = length l.nodes.items ≡ l.counter
