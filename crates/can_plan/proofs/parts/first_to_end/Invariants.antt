use Rattle.std.proofs.Common.{ℕ, ◌<◌, ◌≤◌}
use Rattle.can_plan.specs.Messages.{most_hits as most_hits_of}
use Rattle.can_plan.specs.Steps.{EndsElse, IsEnough}
use Rattle.can_plan.proofs.parts.first_to_end.Given as goal

-- those before this one end at other times, and it has no less delay than `from`
abbrev pub invariant-loop-number : goal.invariant-loop-number
invariant-loop-number l =
    ((k : ℕ) → k < l.number → EndsElse (most_hits_of l.rate) l.blocking l.widest l.message l.higher l.limit l.bound k)
    × ((n : ℕ) → IsEnough (most_hits_of l.rate) l.blocking l.widest l.message l.higher l.number n → l.from ≤ n)
