use Rattle.std.proofs.Common.{rules}
use Rattle.can_fault.proofs.confine.Confine.state.Goals as goal

pub returns-then-self-ge-PASSIVE_FROM-2-clause-value : goal.returns-then-self-ge-PASSIVE_FROM-2-clause-value
returns-then-self-ge-PASSIVE_FROM-2-clause-value c = search rules

pub returns-then-self-ge-PASSIVE_FROM-2-clause-bus_off : goal.returns-then-self-ge-PASSIVE_FROM-2-clause-bus_off
returns-then-self-ge-PASSIVE_FROM-2-clause-bus_off c = search rules

pub returns-else-self-ge-PASSIVE_FROM-2-clause-value : goal.returns-else-self-ge-PASSIVE_FROM-2-clause-value
returns-else-self-ge-PASSIVE_FROM-2-clause-value c = search rules

pub returns-else-self-ge-PASSIVE_FROM-2-clause-active : goal.returns-else-self-ge-PASSIVE_FROM-2-clause-active
returns-else-self-ge-PASSIVE_FROM-2-clause-active c = search rules
