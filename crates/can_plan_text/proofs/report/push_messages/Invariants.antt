use Rattle.std.proofs.Common.{◌≡◌, ◌++◌, drop}
use Rattle.std.specs.List.{flat_map}
use Rattle.can_plan_text.specs.Report.{message_line}
use Rattle.can_plan_text.proofs.report.push_messages.Given as goal

-- with the lines of those from here on, these are all lines
abbrev pub invariant-loop-verdict : goal.invariant-loop-verdict
invariant-loop-verdict l = l.out.items ++ flat_map message_line (drop l.verdict-index l.verdicts) ≡ l.fn.out.items ++ flat_map message_line l.verdicts
