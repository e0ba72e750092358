-- A run and the row of the step table that represents it determine each other.
use Rattle.std.specs.Prelude.{ℕ, ◌≡◌, ◌+◌, ◌-◌, ◌*◌, ◌/◌, ◌%◌, ◌<◌}
use Rattle.std.proofs.Common.{zero, suc, refl, ap, ◌∙◌, arith}
use Rattle.can_frame.specs.Levels.{level_of, level_code}
use Rattle.can_code.specs.Steps.{row_last, row_of, row_run}

code_again : (n : ℕ) → n < 2 → level_code (level_of n) ≡ n
code_again zero h = refl
code_again (suc zero) h = refl
code_again (suc (suc n)) h = absurd (omega arith)

pub row_again : (row : ℕ) → row < 10 → row_of (row_last row) (row_run row) ≡ row
row_again row within =
    ap (λ b. 5 * b + (row_run row - 1)) (code_again (row / 5) (omega arith)) ∙ (let parts : 5 * (row / 5) + (row % 5 + 1 - 1) ≡ row = omega arith in parts)
