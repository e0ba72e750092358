use Rattle.can_gates.proofs.Groups.{circuit_read}
use Rattle.can_gates.proofs.files.aiger.gates_are_read_back.Goals as goal

pub returns : goal.returns
returns c = λ circuit behind ordered fits. circuit_read circuit behind ordered fits
