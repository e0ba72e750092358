use Rattle.std.proofs.Common.{drop}
use Rattle.std.specs.List.{flat_map}
use Rattle.can_gates.specs.Verilog.{declaration_text}
use Rattle.can_gates.proofs.Pieces.{LeavesOf}
use Rattle.can_gates.proofs.files.verilog.push_declarations.Given as goal

-- with those of the words from here on, these are all declarations
abbrev pub invariant-loop-word : goal.invariant-loop-word
invariant-loop-word l =
    LeavesOf (flat_map (declaration_text l.kind) (drop l.word-index l.words)) (flat_map (declaration_text l.kind) l.words) l.fn.text l.text
