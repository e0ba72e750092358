use Rattle.std.proofs.Common.{rules}
use Rattle.can_conform.proofs.meeting.started_node.Goals as goal

pub returns-in-Joining : goal.returns-in-Joining
returns-in-Joining c = search rules
