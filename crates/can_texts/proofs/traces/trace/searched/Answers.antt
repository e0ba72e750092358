use Rattle.std.proofs.Common.{sym, ◌∙◌, arith}
use Rattle.can_texts.proofs.TraceSteps.{IsLost-dominant, IsLost-recessive, GoesOn-searched}
use Rattle.can_texts.proofs.traces.trace.searched.Goals as goal

pub returns-then-not-is_recessive : goal.returns-then-not-is_recessive
returns-then-not-is_recessive c = λ done told few. IsLost-dominant c.args.row c.args.level done told few (sym c.is_recessive.ensures ∙ c.if-not-is_recessive.true)

pub returns-then-row-lt-LONGEST_ROW : goal.returns-then-row-lt-LONGEST_ROW
returns-then-row-lt-LONGEST_ROW c = λ done told few. IsLost-recessive c.args.row c.args.level done told few (sym c.is_recessive.ensures ∙ c.if-not-is_recessive.false) (omega arith)

pub returns-else-row-lt-LONGEST_ROW : goal.returns-else-row-lt-LONGEST_ROW
returns-else-row-lt-LONGEST_ROW c = λ done told few. GoesOn-searched c.args.row c.args.level done told few (sym c.is_recessive.ensures ∙ c.if-not-is_recessive.false) (omega arith)
