use Rattle.std.proofs.Common.{rules}
use Rattle.can_c.proofs.status.Status.of_fault.Goals as goal

pub returns-in-Crc : goal.returns-in-Crc
returns-in-Crc c = search rules
