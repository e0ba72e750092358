use Rattle.std.proofs.Common.{◌++◌, decimal, drop}
use Rattle.can_gates.specs.Aiger.{numbers_behind}
use Rattle.can_gates.proofs.Pieces.{LeavesOf}
use Rattle.can_gates.proofs.files.lines.push_line.Given as goal

-- with those from here on, these are all numbers
abbrev pub invariant-loop-number : goal.invariant-loop-number
invariant-loop-number l = LeavesOf (numbers_behind (drop l.number-index l.others)) (decimal l.first ++ numbers_behind l.others) l.fn.text l.text
