use Rattle.std.proofs.Common.{◌≡◌, ◌++◌, drop}
use Rattle.std.specs.List.{flat_map}
use Rattle.can_plan_text.specs.Scenario.{offer_line}
use Rattle.can_plan_text.proofs.scenario.push_offers.Given as goal

-- with the lines of those from here on, these are all lines
abbrev pub invariant-loop-time : goal.invariant-loop-time
invariant-loop-time l = l.out.items ++ flat_map (offer_line l.frame) (drop l.time-index l.times) ≡ l.fn.out.items ++ flat_map (offer_line l.frame) l.times
