use Rattle.can_gates.proofs.Modules.{module_read}
use Rattle.can_gates.proofs.files.verilog.modules_are_read_back.Goals as goal

pub returns : goal.returns
returns c = λ n circuit registers outputs is are. module_read n circuit registers outputs is are
