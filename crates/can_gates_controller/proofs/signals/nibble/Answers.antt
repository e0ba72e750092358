use Rattle.can_gates_controller.proofs.ListedLemmas.{signals_4}
use Rattle.can_gates_controller.proofs.signals.nibble.Goals as goal

pub returns : goal.returns
returns c = signals_4 c.args.first _ _ _ _ c.signal.ensures c.signal-2.ensures c.signal-3.ensures c.signal-4.ensures
