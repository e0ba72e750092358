use Rattle.std.proofs.Common.{drop}
use Rattle.std.specs.List.{flat_map}
use Rattle.can_gates.specs.Named.{meaning_text}
use Rattle.can_gates.proofs.Pieces.{LeavesOf}
use Rattle.can_gates.proofs.files.symbols.push_meanings.Given as goal

-- with those of the words from here on, these are all lines
abbrev pub invariant-loop-word : goal.invariant-loop-word
invariant-loop-word l = LeavesOf (flat_map meaning_text (drop l.word-index l.words)) (flat_map meaning_text l.words) l.fn.text l.text
