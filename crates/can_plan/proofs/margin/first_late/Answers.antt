use Rattle.std.proofs.Common.{◌≡◌, ◌≤◌, ◌<◌, ℕ, MatchOption, None, Option, Some, length, arith}
use Rattle.can_plan.proofs.Periods.{some-message}
use Rattle.can_plan.proofs.margin.first_late.Goals as goal

none-at-all : (o : Option ℕ) (n : ℕ) (P : ℕ → Type 0) → MatchOption o (n ≤ 0) P → MatchOption o (n ≡ 0) P
none-at-all None n P none = omega (arith, none)
none-at-all (Some place) n P here = here

pub returns-clause-aperiodic : goal.returns-clause-aperiodic
returns-clause-aperiodic c = λ none.
    let due : ℕ = length c.args.deadlines.now in
    none-at-all c.first_late_from.result due (λ place. (place ≡ 0) × (0 < due)) (c.first_late_from.ensures.aperiodic none (some-message c.args.messages.now none))
