use Rattle.std.proofs.Common.{◌≡◌, ◌+◌, drop}
use Rattle.std.specs.List.{flat_map}
use Rattle.can_gates.specs.Aiger.{register_lines, line_text}
use Rattle.can_gates.proofs.Pieces.{LeavesOf}
use Rattle.can_gates.proofs.files.lines.push_registers.Given as goal

-- with the lines of those from here on, these are all lines
abbrev pub invariant-loop-register : goal.invariant-loop-register
invariant-loop-register l =
    (l.signal ≡ l.before + l.register-index)
    × LeavesOf (flat_map line_text (register_lines l.signal (drop l.register-index l.registers))) (flat_map line_text (register_lines l.before l.registers)) l.fn.text l.text
