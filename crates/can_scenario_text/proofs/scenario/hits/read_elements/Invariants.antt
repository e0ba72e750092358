use Rattle.std.proofs.Common.{map, drop}
use Rattle.toml.specs.View.{view}
use Rattle.can_scenario_text.proofs.HitLemmas.{IsReading}
use Rattle.can_scenario_text.proofs.scenario.hits.read_elements.Given as goal

abbrev pub invariant-loop-place : goal.invariant-loop-place
invariant-loop-place l = IsReading l.list l.ports (map view l.values) l.initial.hits.items l.place l.before (map view (drop l.place l.values)) l.hits.items
