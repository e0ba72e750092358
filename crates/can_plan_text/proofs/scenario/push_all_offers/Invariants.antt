use Rattle.std.proofs.Common.{◌≡◌, ◌++◌, drop}
use Rattle.std.specs.List.{flat_map}
use Rattle.can_plan_text.specs.Scenario.{offer_lines}
use Rattle.can_plan_text.proofs.scenario.push_all_offers.Given as goal

-- with the lines of those from here on, these are all lines
abbrev pub invariant-loop-sequence : goal.invariant-loop-sequence
invariant-loop-sequence l = l.out.items ++ flat_map offer_lines (drop l.sequence-index l.sequences) ≡ l.fn.out.items ++ flat_map offer_lines l.sequences
