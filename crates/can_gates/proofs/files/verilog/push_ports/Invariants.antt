use Rattle.std.proofs.Common.{drop}
use Rattle.std.specs.List.{flat_map}
use Rattle.can_gates.specs.Verilog.{port_text}
use Rattle.can_gates.proofs.Pieces.{LeavesOf}
use Rattle.can_gates.proofs.files.verilog.push_ports.Given as goal

-- with those of the words from here on, these are all ports
abbrev pub invariant-loop-word : goal.invariant-loop-word
invariant-loop-word l = LeavesOf (flat_map port_text (drop l.word-index l.words)) (flat_map port_text l.words) l.fn.text l.text
