use Rattle.can_gates.proofs.Reading.{statements_read}
use Rattle.can_gates.proofs.files.statements.statements_are_read_back.Goals as goal

pub returns : goal.returns
returns c = λ statements are. statements_read statements are
