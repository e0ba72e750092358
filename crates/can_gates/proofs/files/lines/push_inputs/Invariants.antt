use Rattle.std.specs.List.{flat_map}
use Rattle.can_gates.specs.Aiger.{input_lines, line_text}
use Rattle.can_gates.specs.Texts.{Writes}
use Rattle.can_gates.proofs.files.lines.push_inputs.Given as goal

abbrev pub invariant-loop-input : goal.invariant-loop-input
invariant-loop-input l = Writes l.fn.text l.text (flat_map line_text (input_lines l.input))
