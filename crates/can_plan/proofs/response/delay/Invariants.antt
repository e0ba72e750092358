use Rattle.std.proofs.Common.{ℕ, ◌+◌, ◌-◌, ◌≤◌}
use Rattle.can_plan.specs.Messages.{most_hits as most_hits_of}
use Rattle.can_plan.specs.Analysis.{demand as demand_of}
use Rattle.can_plan.proofs.response.delay.Given as goal

abbrev pub invariant-loop-next : goal.invariant-loop-next
invariant-loop-next l = (l.delay ≤ l.limit) × ((n : ℕ) → demand_of (most_hits_of l.rate) l.time l.widest l.higher (n + 1) ≤ n → l.delay ≤ n)

abbrev pub decreases-loop-next : goal.decreases-loop-next
decreases-loop-next l = l.limit - l.delay
