use Rattle.can_scenario_text.specs.Scenarios.{port_demands, SaysPort}
use Rattle.document_values.proofs.ReadLists.{IsRead}
use Rattle.can_scenario_text.proofs.scenario.ports.read_ports.Given as goal

abbrev pub invariant-loop-number : goal.invariant-loop-number
invariant-loop-number l = IsRead (port_demands l.version) (SaysPort l.version) l.tables l.number l.plans.items
