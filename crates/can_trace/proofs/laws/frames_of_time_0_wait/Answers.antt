use Rattle.can_trace.proofs.FirstOffers.{first-report}
use Rattle.can_trace.proofs.laws.frames_of_time_0_wait.Goals as goal

pub returns : goal.returns
returns c = first-report
