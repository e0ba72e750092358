use Rattle.std.specs.Prelude.{length}
use Rattle.can_gates.proofs.circuit.Circuit.+select.Given as goal

abbrev pub decreases-select : goal.decreases-select
decreases-select l = length l.place.now
