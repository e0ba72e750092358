use Rattle.std.proofs.Common.{map, drop}
use Rattle.std.specs.List.{flat_map}
use Rattle.can_gates.specs.Aiger.{output_numbers, line_text}
use Rattle.can_gates.proofs.Pieces.{LeavesOf}
use Rattle.can_gates.proofs.files.lines.push_outputs.Given as goal

-- with the lines of those from here on, these are all lines
abbrev pub invariant-loop-output : goal.invariant-loop-output
invariant-loop-output l = LeavesOf (flat_map line_text (map output_numbers (drop l.output-index l.outputs))) (flat_map line_text (map output_numbers l.outputs)) l.fn.text l.text
