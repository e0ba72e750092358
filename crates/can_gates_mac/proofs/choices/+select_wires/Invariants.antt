use Rattle.std.proofs.Common.{length}
use Rattle.can_gates_mac.proofs.choices.+select_wires.Given as goal

abbrev pub decreases-select_wires : goal.decreases-select_wires
decreases-select_wires l = length l.place.now
