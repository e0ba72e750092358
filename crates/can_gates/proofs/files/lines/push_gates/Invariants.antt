use Rattle.std.proofs.Common.{map, drop}
use Rattle.std.specs.List.{flat_map}
use Rattle.can_gates.specs.Aiger.{gate_numbers, line_text}
use Rattle.can_gates.proofs.Pieces.{LeavesOf}
use Rattle.can_gates.proofs.files.lines.push_gates.Given as goal

-- with the lines of those from here on, these are all lines
abbrev pub invariant-loop-gate : goal.invariant-loop-gate
invariant-loop-gate l = LeavesOf (flat_map line_text (map gate_numbers (drop l.gate-index l.gates))) (flat_map line_text (map gate_numbers l.gates)) l.fn.text l.text
