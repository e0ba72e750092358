use Rattle.std.proofs.Common.{◌≡◌, ◌+◌, drop}
use Rattle.std.specs.List.{flat_map}
use Rattle.can_gates.specs.Statements.{statement_text}
use Rattle.can_gates.specs.Verilog.{wires}
use Rattle.can_gates.proofs.Pieces.{LeavesOf}
use Rattle.can_gates.proofs.files.statements.push_wires.Given as goal

-- with those of the names from here on, these are all wires
abbrev pub invariant-loop-bit : goal.invariant-loop-bit
invariant-loop-bit l = (l.signal ≡ l.first + l.bit-index) × LeavesOf (flat_map statement_text (wires l.signal (drop l.bit-index l.bits))) (flat_map statement_text (wires l.first l.bits)) l.fn.text l.text
