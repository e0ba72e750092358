-- How many levels may follow before a frame's CRC sequence is whole, and levels without their stuff bits.
use Rattle.std.specs.Prelude.{ℕ, ◌^◌, ◌≤◌, ◌<◌, List, ◌++◌, length, take}
use Rattle.can_frame.specs.declared.level.Level.{Level}
use Rattle.can_frame.specs.Levels.{bits_of}
use Rattle.can_wire.specs.Layout.{frame_len}
use Rattle.can_code.specs.Digits.{HearsDigits}
use Rattle.can_code.specs.Steps.{RunParts, run_at}
use Rattle.can_code.specs.declared.unstuffing.StepRun.{StepRun}
use Rattle.can_code.specs.declared.unstuffing.UnstuffedRun.{UnstuffedRun}

-- after up to n more unstuffed levels, whatever their values, the CRC sequence is not whole yet
abbrev pub IsOpenFor : List Level → ℕ → Type 0
IsOpenFor u n = (v : List Level) → length v ≤ n → length (u ++ v) < frame_len (u ++ v)

-- `taken` is what a front takes from the front of these digits after this run, if at least `room` unstuffed levels may
-- follow
pub record Unstuffs (digits : List ℕ) (room : ℕ) (before : RunParts) (taken : UnstuffedRun) : Type 0 where
  pub within : taken.taken ≤ length digits
  pub few : taken.len ≤ room
  pub small : taken.number < 2 ^ taken.len
  pub some : 1 ≤ taken.behind.run
  pub short : taken.behind.run ≤ 5
  pub heard : (u : List Level) → IsOpenFor u room → HearsDigits (record { unstuffed = u; last = before.last; run = before.run })
      (record { unstuffed = u ++ bits_of taken.len taken.number; last = taken.behind.last; run = taken.behind.run }) (take taken.taken digits)

-- levels that steps have taken, with the run that the row of the table represents
abbrev pub as_run : StepRun → UnstuffedRun
as_run s = record { number = s.number; len = s.len; behind = run_at s.row; taken = s.taken }
