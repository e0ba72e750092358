use Rattle.std.proofs.Common.{rules}
use Rattle.can_code.proofs.reading.srr.Goals as goal

pub returns-then-is_extended : goal.returns-then-is_extended
returns-then-is_extended g c = search rules
