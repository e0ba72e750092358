use Rattle.std.proofs.Common.{inl, inr, arith}
use Rattle.kit_documents.proofs.ReadPieces.{no-count}
use Rattle.kit_documents.proofs.words.reading.count_in.Goals as goal

pub returns-then-count-eq0 : goal.returns-then-count-eq0
returns-then-count-eq0 c = no-count c.args.digits.now c.in_ok-count.count c.in_ok-count.ensures.0 c.in_ok-count.ensures.1 (inl c.if-count-eq0.true)

pub returns-then-count-gt-LONGEST_RUN : goal.returns-then-count-gt-LONGEST_RUN
returns-then-count-gt-LONGEST_RUN c = no-count c.args.digits.now c.in_ok-count.count c.in_ok-count.ensures.0 c.in_ok-count.ensures.1 (inr (omega arith))
