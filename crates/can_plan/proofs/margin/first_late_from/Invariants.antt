use Rattle.std.proofs.Common.{◌≡◌, ℕ, ◌<◌, false}
use Rattle.can_plan.specs.Carried.{IsBusyBefore}
use Rattle.can_plan.specs.Margins.{MeetsDeadline}
use Rattle.can_plan.specs.Messages.{ArePeriodic, most_hits}
use Rattle.can_plan.proofs.Periods.{all_have}
use Rattle.can_plan.proofs.margin.first_late_from.Given as goal

-- those before this place meet their deadlines; if a period is 0 there is none
abbrev pub invariant-loop-place : goal.invariant-loop-place
invariant-loop-place l =
    (ArePeriodic l.messages → (k : ℕ) → k < l.place → MeetsDeadline l.rate l.limit l.messages l.deadlines k)
    × (IsBusyBefore (most_hits l.rate) l.messages l.place l.busy × (all_have l.messages ≡ false → l.place ≡ l.from))
