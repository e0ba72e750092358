use Rattle.std.proofs.Common.{◌≡◌, ◌++◌, drop}
use Rattle.std.specs.List.{flat_map}
use Rattle.can_plan_text.specs.Scenario.{own_port}
use Rattle.can_plan_text.proofs.scenario.push_own_ports.Given as goal

-- with the lines of those from here on, these are all lines
abbrev pub invariant-loop-sequence : goal.invariant-loop-sequence
invariant-loop-sequence l = l.out.items ++ flat_map (own_port l.room) (drop l.sequence-index l.sequences) ≡ l.fn.out.items ++ flat_map (own_port l.room) l.sequences
