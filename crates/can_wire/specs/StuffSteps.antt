-- Stuffing of eight levels at once. (Bosch CAN 2.0 part B, section 6)
use Rattle.std.specs.Prelude.{ℕ, ◌≡◌, ◌+◌, ◌-◌, ◌*◌, ◌/◌, ◌%◌, ◌^◌, ◌<◌, ◌≤◌, ◌==◌, if◌then◌else◌, List, [], ◌∷◌, ◌++◌, length, map, take}
use Rattle.can_frame.specs.declared.level.Level.{Level}
use Rattle.can_frame.specs.declared.level.Level.TheVariants.{Recessive}
use Rattle.can_frame.specs.Levels.{bits_of, digit_of, level_of, number_from, opposite}
use Rattle.can_wire.specs.Stuffing.{run_after, stuffed_from, stuffed}
use Rattle.can_wire.specs.declared.digits.DigitRun.{DigitRun}
use Rattle.can_wire.specs.declared.stuff_steps.StuffStep.{StuffStep}
use Rattle.can_wire.specs.declared.stuff_steps.Stuffing.{Stuffing}

-- the last of these levels with their stuff bits, after a run of this level and length
abbrev pub last_behind : Level → ℕ → List Level → Level
last_behind last run [] = last
last_behind last run (x ∷ xs) =
    if run_after last run x == 5 then last_behind (opposite x) 1 xs
    else last_behind x (run_after last run x) xs

-- the length of the run that this level ends
abbrev pub run_behind : Level → ℕ → List Level → ℕ
run_behind last run [] = run
run_behind last run (x ∷ xs) =
    if run_after last run x == 5 then run_behind (opposite x) 1 xs
    else run_behind x (run_after last run x) xs

-- the last level and the length of the run that a row of the table represents
abbrev pub last_of : ℕ → Level
last_of row = level_of (row / 4)

abbrev pub run_of : ℕ → ℕ
run_of row = row % 4 + 1

-- s is the stuffed form of the levels xs after the run of this row
pub record Steps (row : ℕ) (xs : List Level) (s : StuffStep) : Type 0 where
  pub levels : take s.len (bits_of 10 s.number) ≡ stuffed_from (last_of row) (run_of row) xs
  pub len : s.len ≡ length (stuffed_from (last_of row) (run_of row) xs)
  pub ends : last_of s.row ≡ last_behind (last_of row) (run_of row) xs
  pub ends_run : run_of s.row ≡ run_behind (last_of row) (run_of row) xs

-- the table entry for these levels: the stuffed levels, the number of stuff bits and the next row
-- in one number
abbrev pub entry_of : Level → ℕ → List Level → ℕ
entry_of last run xs =
    number_from 0 (stuffed_from last run xs) * 2 ^ (10 - length (stuffed_from last run xs)) + 1024 * (length (stuffed_from last run xs) - 8)
    + 4096 * (run_behind last run xs - 1) + 16384 * number_from 0 (last_behind last run xs ∷ [])

-- u has been laid out with its stuff bits
pub record LaysOut (levels : List Level) (s : Stuffing) (u : List Level) : Type 0 where
  -- together with any following levels, stuffed from here, it is the stuffed form of them all
  pub completes : (rest : List Level) → take s.len levels ++ stuffed_from (last_of s.row) (run_of s.row) rest ≡ stuffed (u ++ rest)
  pub small : s.row < 8
  pub room : 4 * s.len + run_of s.row ≤ 5 * length u

-- the digits of u with its stuff bits have been written, stuffed as after a recessive level
pub record HasDigits (digits : List ℕ) (s : DigitRun) (u : List Level) : Type 0 where
  -- together with those of any following levels, stuffed from here, they are the digits of them all
  pub completes : (rest : List Level) → take s.len digits ++ map digit_of (stuffed_from (last_of s.row) (run_of s.row) rest) ≡ map digit_of (stuffed_from Recessive 1 (u ++ rest))
  pub small : s.row < 8
  pub room : 4 * s.len + run_of s.row ≤ 1 + 5 * length u
