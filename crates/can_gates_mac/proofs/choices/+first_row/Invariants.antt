use Rattle.std.proofs.Common.{length}
use Rattle.can_gates_mac.proofs.choices.+first_row.Given as goal

abbrev pub decreases-first_row : goal.decreases-first_row
decreases-first_row l = length l.rows.now
