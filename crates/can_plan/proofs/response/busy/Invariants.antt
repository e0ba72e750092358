use Rattle.std.proofs.Common.{ℕ, ◌-◌, ◌<◌, ◌≤◌}
use Rattle.can_plan.specs.Messages.{most_hits as most_hits_of}
use Rattle.can_plan.specs.Steps.{IsBusy}
use Rattle.can_plan.proofs.response.busy.Given as goal

abbrev pub invariant-loop-next : goal.invariant-loop-next
invariant-loop-next l = (l.long ≤ l.limit) × (0 < l.long)
    × ((n : ℕ) → IsBusy (most_hits_of l.rate) l.blocking l.widest l.message l.higher n → l.long ≤ n)

abbrev pub decreases-loop-next : goal.decreases-loop-next
decreases-loop-next l = l.limit - l.long
