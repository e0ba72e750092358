use Rattle.std.proofs.Common.{◌∙◌, arith}
use Rattle.can_gates_controller.proofs.Own.{head-extended}
use Rattle.can_gates_controller.proofs.sending.is_extended.Goals as goal

pub returns : goal.returns
returns c = λ v f is own. own 13 (omega arith) ∙ head-extended f is
