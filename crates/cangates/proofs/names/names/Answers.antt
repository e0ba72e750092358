use Rattle.std.proofs.Common.{refl, sym}
use Rattle.can_gates.proofs.Tested.{readable_names}
use Rattle.cangates.proofs.WordLists.{inputs_sized, outputs_sized, registers_sized}
use Rattle.cangates.proofs.names.names.Goals as goal

pub returns-clause-named : goal.returns-clause-named
returns-clause-named c = λ d. record { circuit = refl; inputs = sym (inputs_sized d.inputs); registers = sym (registers_sized d.held); outputs = sym (outputs_sized d.outputs) }

pub returns-clause-readable : goal.returns-clause-readable
returns-clause-readable c = readable_names _ refl
