use Rattle.std.proofs.Common.{ℕ, ◌-◌, ◌<◌, ◌≤◌}
use Rattle.can_plan_text.specs.Worst.{IsBusyPeriod, most_long}
use Rattle.can_plan_text.proofs.period.busy_period.Given as goal

abbrev pub invariant-loop-next : goal.invariant-loop-next
invariant-loop-next l = (l.long ≤ most_long) × (0 < l.long) × ((n : ℕ) → IsBusyPeriod l.blocking l.level n → l.long ≤ n)

abbrev pub decreases-loop-next : goal.decreases-loop-next
decreases-loop-next l = most_long - l.long
