use Rattle.std.proofs.Common.{map, drop}
use Rattle.std.specs.List.{flat_map}
use Rattle.can_gates.specs.Statements.{And, statement_text}
use Rattle.can_gates.proofs.Pieces.{LeavesOf}
use Rattle.can_gates.proofs.files.statements.push_gates.Given as goal

-- with those of the gates from here on, these are all wires
abbrev pub invariant-loop-gate : goal.invariant-loop-gate
invariant-loop-gate l = LeavesOf (flat_map statement_text (map And (drop l.gate-index l.gates))) (flat_map statement_text (map And l.gates)) l.fn.text l.text
