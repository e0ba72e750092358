use Rattle.std.proofs.Common.{rules}
use Rattle.can_conform.proofs.meeting.meet.Goals as goal

pub returns-clause-drove : goal.returns-clause-drove
returns-clause-drove g c = search rules
