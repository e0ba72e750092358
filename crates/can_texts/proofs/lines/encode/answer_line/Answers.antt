use Rattle.std.proofs.Common.{rules}
use Rattle.can_texts.proofs.lines.encode.answer_line.Goals as goal

pub returns-in-Err-clause-err : goal.returns-in-Err-clause-err
returns-in-Err-clause-err g c = search rules
