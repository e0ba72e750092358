-- A run of steps, by the rows of their table.
use Rattle.std.proofs.Common.{◌≡◌, ℕ, ◌≤◌, List, sym, subst, ◌∙◌, ap}
use Rattle.can_code.specs.Steps.{RunParts, Step, row_of, run_at, row_run}
use Rattle.can_code.specs.Unstuffing.{Unstuffs, as_run}
use Rattle.can_code.proofs.StepTable.{row_of-last, row_of-run}

-- after a step the row represents its last level and its run
pub Unstuffs-row : (digits : List ℕ) (room : ℕ) (before : RunParts) (number len taken : ℕ) (s : Step) → 1 ≤ s.run → s.run ≤ 5
    → Unstuffs digits room before (record { number = number; len = len; behind = record { last = s.last; run = s.run }; taken = taken })
    → Unstuffs digits room before (as_run (record { number = number; len = len; row = row_of s.last s.run; taken = taken }))
Unstuffs-row digits room before number len taken s some short h =
    let behind : run_at (row_of s.last s.run) ≡ record { last = s.last; run = s.run } =
    ap (λ l. record { last = l; run = row_run (row_of s.last s.run) }) (row_of-last s.last s.run some short)
    ∙ ap (λ r. record { last = s.last; run = r }) (row_of-run s.last s.run some short) in
    subst (λ b. Unstuffs digits room before (record { number = number; len = len; behind = b; taken = taken })) (sym behind) h
