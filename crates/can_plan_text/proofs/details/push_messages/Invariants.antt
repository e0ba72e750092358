use Rattle.std.proofs.Common.{◌≡◌, ◌++◌, drop}
use Rattle.std.specs.List.{flat_map}
use Rattle.can_plan_text.specs.Details.{detail_lines}
use Rattle.can_plan_text.proofs.details.push_messages.Given as goal

-- with the lines of those from here on, these are all lines
abbrev pub invariant-loop-detail : goal.invariant-loop-detail
invariant-loop-detail l = l.out.items ++ flat_map (detail_lines l.plan) (drop l.detail-index l.details) ≡ l.fn.out.items ++ flat_map (detail_lines l.plan) l.details
