use Rattle.std.proofs.Common.{◌≡◌, ◌++◌, drop}
use Rattle.std.specs.List.{flat_map}
use Rattle.can_plan_text.specs.Details.{before_line}
use Rattle.can_plan_text.proofs.details.push_before.Given as goal

-- with the lines of those from here on, these are all lines
abbrev pub invariant-loop-planned : goal.invariant-loop-planned
invariant-loop-planned l = l.out.items ++ flat_map (before_line l.delay) (drop l.planned-index l.higher) ≡ l.fn.out.items ++ flat_map (before_line l.delay) l.higher
