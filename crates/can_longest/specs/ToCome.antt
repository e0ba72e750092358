-- The levels that still follow in a frame's stuffed part. They depend on the last level and its run, and on the CRC
-- sequence that the frame has if only dominant data follow. (Bosch CAN 2.0 part B, sections 3.2.1 and 6)
use Rattle.std.proofs.Props.{props}
use Rattle.std.specs.Prelude.{ℕ, zero, suc, ◌≡◌, ◌+◌, ◌*◌, ◌^◌, ◌<◌, ◌==◌, max, if◌then◌else◌, List, ◌∷◌, ◌++◌, length, replicate, slice_get, Some}
use Rattle.can_frame.specs.declared.level.Level.{Level}
use Rattle.can_frame.specs.declared.level.Level.TheVariants.{Dominant, Recessive}
use Rattle.can_frame.specs.Levels.{bits_of, opposite}
use Rattle.can_wire.specs.Crc.{xor, crc_of}
use Rattle.can_wire.specs.Stuffing.{run_after, stuffed_from}
use Rattle.can_longest.specs.declared.rows.Ahead.{Ahead}
use Rattle.can_longest.specs.declared.rows.Row.{Row}

-- One more level, after a run of this level and length.

-- its number of levels, with its stuff bit
abbrev pub wire_levels : Level → ℕ → Level → ℕ
wire_levels last run x = if run_after last run x == 5 then 2 else 1

-- the last of these levels
abbrev pub next_last : Level → ℕ → Level → Level
next_last last run x = if run_after last run x == 5 then opposite x else x

-- the length of the run that this one ends
abbrev pub next_run : Level → ℕ → Level → ℕ
next_run last run x = if run_after last run x == 5 then 1 else run_after last run x

-- the CRC sequence, which was `check` for a dominant level, if x comes and then k more levels
abbrev pub next_check : ℕ → List Level → Level → List Level
next_check k check x = xor check (crc_of (x ∷ replicate k Dominant))

-- the number of levels that follow if the frame's rest is d, with the CRC sequence and all stuff bits
unfoldable pub to_come : Level → ℕ → List Level → List Level → ℕ
to_come last run check d = length (stuffed_from last run (d ++ xor check (crc_of d)))

-- the maximum number that follow if k levels and the CRC sequence come
unfoldable pub most : ℕ → Level → ℕ → List Level → ℕ
most zero last run check = length (stuffed_from last run check)
most (suc k) last run check =
    max (wire_levels last run Dominant + most k (next_last last run Dominant) (next_run last run Dominant) (next_check k check Dominant))
    (wire_levels last run Recessive + most k (next_last last run Recessive) (next_run last run Recessive) (next_check k check Recessive))

-- the maximum number that follow if the first level is x
abbrev pub most_with : ℕ → Level → ℕ → List Level → Level → ℕ
most_with k last run check x = wire_levels last run x + most k (next_last last run x) (next_run last run x) (next_check k check x)

-- the sum of two CRC sequences that are opposite at each place, after k opposite levels
unfoldable pub turned : ℕ → List Level
turned zero = replicate 15 Recessive
turned (suc k) = next_check k (turned k) Recessive

-- The table: for a CRC sequence, the maximum number of levels that follow one to four dominant levels.
pub record IsAhead (k : ℕ) (check : List Level) (a : Ahead) : Type 0 where
  pub one : a.one ≡ most k Dominant 1 check
  pub two : a.two ≡ most k Dominant 2 check
  pub three : a.three ≡ most k Dominant 3 check
  pub four : a.four ≡ most k Dominant 4 check

-- its row for k levels
pub record IsRow (k : ℕ) (row : Row) : Type 0 where
  pub turned : bits_of 15 row.turned ≡ turned k
  pub range : row.turned < 2 ^ 15
  pub full : length row.ahead.items ≡ 2 ^ 15
  pub each : (check : ℕ) (a : Ahead) → slice_get row.ahead.items check ≡ Some a → IsAhead k (bits_of 15 check) a

-- the rows of none to n - 1 bytes
pub record AreRows (n : ℕ) (rows : List Row) : Type 0 where
  pub full : length rows ≡ n
  pub each : (k : ℕ) (row : Row) → slice_get rows k ≡ Some row → IsRow (8 * k) row

pub AreRows-prop : (n : ℕ) (rows : List Row) → IsProp (AreRows n rows)
AreRows-prop n rows = hlevel props
