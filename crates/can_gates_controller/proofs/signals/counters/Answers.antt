use Rattle.can_gates_controller.proofs.ListedLemmas.{signals_of_counters}
use Rattle.can_gates_controller.proofs.signals.counters.Goals as goal

pub returns : goal.returns
returns c = signals_of_counters (record { tec = c.signals.result; rec = c.signals-2.result; occurrences = c.signals-3.result; widths = (c.signals.ensures.places, c.signals-2.ensures.places, c.signals-3.ensures.places) }) c.signals.ensures.signals c.signals-2.ensures.signals c.signals-3.ensures.signals
