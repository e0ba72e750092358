use Rattle.can_code.proofs.OneCodeFault.{IsCodeFault-one}
use Rattle.can_code.proofs.laws.one_code_fault.Goals as goal

pub returns : goal.returns
returns c = IsCodeFault-one
