use Rattle.can_gates.proofs.FilesRead.{ascii_read}
use Rattle.can_gates.proofs.files.aiger.ascii_files_are_read_back.Goals as goal

pub returns : goal.returns
returns c = λ n circuit registers outputs is are. ascii_read n circuit registers outputs is are
