use Rattle.can_gates_controller.proofs.ListedLemmas.{signals_of_heard}
use Rattle.can_gates_controller.proofs.signals.heard.Goals as goal

pub returns : goal.returns
returns c = signals_of_heard c.signals.result c.signals-2.result c.signals-3.result c.signal.result c.nibble.result c.signals.ensures.signals c.signals-2.ensures.signals c.signal.ensures c.nibble.ensures c.signals-3.ensures.signals
