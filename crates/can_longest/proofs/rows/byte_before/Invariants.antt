use Rattle.std.proofs.Common.{◌+◌, ◌*◌}
use Rattle.can_longest.specs.ToCome.{IsRow}
use Rattle.can_longest.proofs.rows.byte_before.Given as goal

abbrev pub invariant-loop-bit : goal.invariant-loop-bit
invariant-loop-bit l = IsRow (8 * l.bytes + l.bit) l.row
