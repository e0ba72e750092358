use Rattle.std.proofs.Common.{map, drop}
use Rattle.std.specs.List.{flat_map}
use Rattle.can_gates.specs.Aiger.{line_text}
use Rattle.can_gates.specs.Binary.{register_numbers}
use Rattle.can_gates.proofs.Pieces.{LeavesOf}
use Rattle.can_gates.proofs.files.aiger.push_registers.Given as goal

-- with the lines of those from here on, these are all lines
abbrev pub invariant-loop-register : goal.invariant-loop-register
invariant-loop-register l =
    LeavesOf (flat_map line_text (map register_numbers (drop l.register-index l.registers))) (flat_map line_text (map register_numbers l.registers)) l.fn.text l.text
