-- Levels of a stuffed part that are taken at once. (Bosch CAN 2.0 part B, section 6)
use Rattle.std.specs.Prelude.{ℕ, ◌+◌, ◌-◌, ◌*◌, ◌/◌, ◌%◌, ◌==◌, Option, Some, None, option_and_then, if◌then◌else◌, List, [], ◌∷◌}
use Rattle.can_frame.specs.declared.level.Level.{Level}
use Rattle.can_frame.specs.Levels.{level_of, same, level_code}
use Rattle.can_wire.specs.Stuffing.{run_after}
use Rattle.can_code.specs.declared.steps.TableStep.{TableStep}

-- Levels without their stuff bits: the unstuffed ones as the bits of a number, the first level highest, and how many
-- they are; the last level, which may be a stuff bit, and the length of the run of equal levels that it ends.
pub record Step : Type 0 where
  pub number : ℕ
  pub len : ℕ
  pub last : Level
  pub run : ℕ

-- no levels yet, after a run of this level and length
abbrev pub begun : Level → ℕ → Step
begun last run = record { number = 0; len = 0; last = last; run = run }

-- One more level. After five equal levels it is a stuff bit, which has to differ from them.
abbrev pub step_on : Step → Level → Option Step
step_on s x =
    if s.run == 5 then (if same x s.last then None else Some (record { number = s.number; len = s.len; last = x; run = 1 }))
    else Some (record { number = 2 * s.number + level_code x; len = s.len + 1; last = x; run = run_after s.last s.run x })

-- levels, one after another
abbrev pub steps_on : Step → List Level → Option Step
steps_on s [] = Some s
steps_on s (x ∷ xs) = option_and_then (λ t. steps_on t xs) (step_on s x)

-- ---- the table of the code

-- a run of equal levels: its level, and its length
pub record RunParts : Type 0 where
  pub last : Level
  pub run : ℕ

-- the row for the levels after a run of this level and length, and the run before a row
abbrev pub row_of : Level → ℕ → ℕ
row_of last run = 5 * level_code last + (run - 1)

abbrev pub row_last : ℕ → Level
row_last row = level_of (row / 5)

abbrev pub row_run : ℕ → ℕ
row_run row = row % 5 + 1

abbrev pub run_at : ℕ → RunParts
run_at row = record { last = row_last row; run = row_run row }

-- a step as the code has it
abbrev pub in_table : Option Step → Option TableStep
in_table None = None
in_table (Some s) = Some (record { number = s.number; len = s.len; row = row_of s.last s.run })

-- the table entry of a step
abbrev pub step_entry : Option Step → ℕ
step_entry None = 65535
step_entry (Some s) = s.number + 256 * s.len + 4096 * row_of s.last s.run
