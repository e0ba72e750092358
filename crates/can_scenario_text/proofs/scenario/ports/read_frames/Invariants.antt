use Rattle.can_scenario_text.specs.Scenarios.{frame_demands, SaysQueueElement}
use Rattle.document_values.proofs.ReadLists.{IsRead}
use Rattle.can_scenario_text.proofs.scenario.ports.read_frames.Given as goal

abbrev pub invariant-loop-place : goal.invariant-loop-place
invariant-loop-place l = IsRead (frame_demands l.version l.number) (SaysQueueElement l.version) l.values l.place l.frames.items
