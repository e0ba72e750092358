use Rattle.can_node.proofs.WaitingLaws.{waits, none_waits, without-first, without-other}
use Rattle.can_node.proofs.laws.first_frame_waits.Goals as goal

pub returns-clause-waits : goal.returns-clause-waits
returns-clause-waits c = waits

pub returns-clause-none : goal.returns-clause-none
returns-clause-none c = none_waits

pub returns-clause-leaves : goal.returns-clause-leaves
returns-clause-leaves c = without-first

pub returns-clause-stays : goal.returns-clause-stays
returns-clause-stays c = without-other
