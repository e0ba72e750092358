use Rattle.can_gates_controller.proofs.ListedLemmas.{signals_of_fields}
use Rattle.can_gates_controller.proofs.signals.frame_ports.Goals as goal

pub returns : goal.returns
returns c = signals_of_fields c.signal.result c.signal-2.result c.signals.result c.signals-2.result c.nibble.result c.signal.ensures c.signal-2.ensures c.signals.ensures.signals c.nibble.ensures c.signals-2.ensures.signals
