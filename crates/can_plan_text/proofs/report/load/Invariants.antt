use Rattle.std.proofs.Common.{◌≡◌, ◌≤◌, ◌*◌, ◌^◌, take}
use Rattle.std.specs.List.{sum_by}
use Rattle.can_plan_text.specs.Report.{share_of}
use Rattle.can_plan_text.proofs.report.load.Given as goal

abbrev pub invariant-loop-verdict : goal.invariant-loop-verdict
invariant-loop-verdict l = (l.total ≡ sum_by share_of (take l.verdict-index l.verdict-items)) × (l.total ≤ l.verdict-index * 2 ^ 47)
