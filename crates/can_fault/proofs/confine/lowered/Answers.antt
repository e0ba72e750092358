use Rattle.std.proofs.Common.{rules}
use Rattle.can_fault.proofs.confine.lowered.Goals as goal

pub returns-then-rec-ge-PASSIVE_FROM : goal.returns-then-rec-ge-PASSIVE_FROM
returns-then-rec-ge-PASSIVE_FROM c = search rules
