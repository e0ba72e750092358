use Rattle.std.proofs.Common.{drop}
use Rattle.std.specs.List.{flat_map}
use Rattle.can_gates.specs.Binary.{gate_bytes}
use Rattle.can_gates.proofs.Pieces.{LeavesOf}
use Rattle.can_gates.proofs.files.aiger.push_gates.Given as goal

-- with those of the gates from here on, these are all bytes
abbrev pub invariant-loop-gate : goal.invariant-loop-gate
invariant-loop-gate l = LeavesOf (flat_map gate_bytes (drop l.gate-index l.gates)) (flat_map gate_bytes l.gates) l.fn.text l.text
