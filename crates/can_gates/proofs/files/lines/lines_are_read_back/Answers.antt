use Rattle.can_gates.proofs.AigerLines.{lines_read}
use Rattle.can_gates.proofs.files.lines.lines_are_read_back.Goals as goal

pub returns : goal.returns
returns c = λ lines are. lines_read lines are
