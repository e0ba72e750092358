use Rattle.can_gates.proofs.FilesRead.{binary_read}
use Rattle.can_gates.proofs.files.aiger.binary_files_are_read_back.Goals as goal

pub returns : goal.returns
returns c = λ n circuit registers outputs is are ordered fits within. binary_read n circuit registers outputs is are ordered fits within
