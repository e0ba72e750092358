use Rattle.can_gates_controller.proofs.ListedLemmas.{signals_4, signals_of_inputs}
use Rattle.can_gates_controller.specs.Listed.{field_list}
use Rattle.can_gates_controller.proofs.signals.input_ports.Goals as goal

pub returns : goal.returns
returns c =
    signals_of_inputs c.signal.result c.signal-2.result c.signal-3.result c.signal-4.result c.signal-5.result c.signal-6.result c.signal-7.result c.signal-8.result (field_list c.frame_ports-frame.result)
    (signals_4 1 _ _ _ _ c.signal.ensures c.signal-2.ensures c.signal-3.ensures c.signal-4.ensures)
    (signals_4 5 _ _ _ _ c.signal-5.ensures c.signal-6.ensures c.signal-7.ensures c.signal-8.ensures)
    c.frame_ports-frame.ensures
