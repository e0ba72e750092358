use Rattle.can_plan_text.proofs.Keeping.{keeping}
use Rattle.can_plan_text.proofs.Sizes.{sized}
use Rattle.can_plan_text.proofs.worst_laws.worst_cases_keep_to_messages.Goals as goal

pub returns : goal.returns
returns c = record { sized = sized; keep = keeping }
