use Rattle.cangates.proofs.WordLists.{inputs_fit, inputs_joined, outputs_fit, outputs_joined, registers_fit, registers_joined}
use Rattle.cangates.proofs.names.words_are_the_ports.Goals as goal

pub returns-clause-inputs : goal.returns-clause-inputs
returns-clause-inputs c = inputs_joined

pub returns-clause-registers : goal.returns-clause-registers
returns-clause-registers c = registers_joined

pub returns-clause-outputs : goal.returns-clause-outputs
returns-clause-outputs c = outputs_joined

pub returns-clause-inputs_fit : goal.returns-clause-inputs_fit
returns-clause-inputs_fit c = inputs_fit

pub returns-clause-registers_fit : goal.returns-clause-registers_fit
returns-clause-registers_fit c = registers_fit

pub returns-clause-outputs_fit : goal.returns-clause-outputs_fit
returns-clause-outputs_fit c = outputs_fit
