use Rattle.std.proofs.Common.{map}
use Rattle.kit_documents.proofs.ReadTexts.{AreSome}
use Rattle.kit_documents.proofs.words.reading.read_levels.Given as goal

abbrev pub invariant-loop-piece : goal.invariant-loop-piece
invariant-loop-piece l = AreSome (map (λ piece. piece.now) l.yielded) l.most l.fn.levels.items l.levels.items l.some
