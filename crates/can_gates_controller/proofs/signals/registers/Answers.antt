use Rattle.can_gates_controller.proofs.ListedLemmas.{signals_4, signals_of_parts}
use Rattle.can_gates_controller.proofs.signals.registers.Goals as goal

pub returns : goal.returns
returns c = signals_of_parts c.nibble.result c.nibble-2.result c.nibble-3.result c.nibble-4.result c.signal.result c.signal-2.result c.signal-3.result c.signal-4.result c.counters.result c.heard.result c.signals.result c.nibble.ensures c.nibble-2.ensures (signals_4 116 c.signal.result c.signal-2.result c.signal-3.result c.signal-4.result c.signal.ensures c.signal-2.ensures c.signal-3.ensures c.signal-4.ensures) c.nibble-3.ensures c.nibble-4.ensures c.counters.ensures c.heard.ensures c.signals.ensures.signals
