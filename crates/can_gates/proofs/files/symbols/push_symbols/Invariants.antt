use Rattle.std.proofs.Common.{◌≡◌, drop}
use Rattle.std.specs.List.{flat_map}
use Rattle.can_gates.specs.Named.{symbol_text, symbols}
use Rattle.can_gates.proofs.Pieces.{LeavesOf}
use Rattle.can_gates.proofs.files.symbols.push_symbols.Given as goal

-- with those of the names from here on, these are all lines
abbrev pub invariant-loop-bit : goal.invariant-loop-bit
invariant-loop-bit l =
    (l.place ≡ l.bit-index)
    × LeavesOf (flat_map symbol_text (symbols l.kind l.place (drop l.bit-index l.bits))) (flat_map symbol_text (symbols l.kind 0 l.bits)) l.fn.text l.text
