use Rattle.std.proofs.Common.{rules}
use Rattle.can_c.proofs.told.can_c_counters.Goals as goal

pub returns-in-Some-clause-transmit : goal.returns-in-Some-clause-transmit
returns-in-Some-clause-transmit c = search rules
