use Rattle.std.proofs.Common.{◌+◌}
use Rattle.can_longest.specs.ToCome.{AreRows}
use Rattle.can_longest.proofs.wires.LongestWires.new.Given as goal

abbrev pub invariant-loop-bytes : goal.invariant-loop-bytes
invariant-loop-bytes l = AreRows (l.bytes + 1) l.rows.items
