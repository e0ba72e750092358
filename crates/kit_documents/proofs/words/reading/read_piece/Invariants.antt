use Rattle.std.proofs.Common.{◌≡◌, ◌++◌, replicate}
use Rattle.kit_documents.proofs.words.reading.read_piece.Given as goal

abbrev pub invariant-loop : goal.invariant-loop
invariant-loop l = l.levels.items ≡ l.fn.levels.items ++ replicate l.counter l.level
