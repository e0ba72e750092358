use Rattle.std.proofs.Common.{◌≡◌, drop}
use Rattle.std.specs.List.{flat_map}
use Rattle.can_gates.specs.Statements.{statement_text}
use Rattle.can_gates.specs.Verilog.{assigns}
use Rattle.can_gates.proofs.Pieces.{LeavesOf}
use Rattle.can_gates.proofs.files.statements.push_assigns.Given as goal

-- with those of the names from here on, these are all statements
abbrev pub invariant-loop-bit : goal.invariant-loop-bit
invariant-loop-bit l =
    (l.place ≡ l.bit-index)
    × LeavesOf (flat_map statement_text (assigns l.place (drop l.bit-index l.bits) l.outputs)) (flat_map statement_text (assigns 0 l.bits l.outputs)) l.fn.text l.text
