use Rattle.std.proofs.Common.{rules}
use Rattle.can_node.proofs.queue.first_with.Goals as goal

pub returns-in-Some : goal.returns-in-Some
returns-in-Some c = search rules
