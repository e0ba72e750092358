-- The recorded levels of an attempt, hit or not. (Bosch CAN 2.0 part B, sections 3.2.3, 6 and 7)
use Rattle.std.specs.Prelude.{ℕ, zero, suc, ◌+◌, List, ◌∷◌, ◌++◌, take, drop, replicate, Option, Some, None}
use Rattle.can_frame.specs.declared.level.Level.{Level}
use Rattle.can_frame.specs.declared.level.Level.TheVariants.{Dominant, Recessive}
use Rattle.can_frame.specs.Levels.{opposite}
use Rattle.can_frame.specs.Parts.{Parts}
use Rattle.can_frame.specs.IdleRow.{idle_row}
use Rattle.can_code.specs.declared.fault.CodeFaultKind.{CodeFaultKind}
use Rattle.can_code.specs.declared.fault.CodeFaultKind.TheVariants.{Crc}
use Rattle.can_wire.specs.Wire.{wire}
use Rattle.can_wire.specs.Layout.{level_at}
use Rattle.can_code.specs.Front.{FrontParts, first_front, next_place, hear_at, heard_levels}
use Rattle.can_mac.specs.Frames.{with_intermission}

-- f is hit at this offset: the levels before it, the opposite of the level there, and this many dominant levels
abbrev pub struck : Parts → ℕ → ℕ → List Level
struck f offset dominant = take offset (wire f) ++ (opposite (level_at (wire f) offset) ∷ replicate dominant Dominant)

-- How many dominant levels a receiver samples up to and including the first that is an error, at most `most`. A level is an error if it
-- repeats the five before it in the place of a stuff bit, or is the CRC delimiter. 0 if an earlier level was an error.
abbrev pub until_refused : ℕ → Option FrontParts → ℕ
until_refused most None = 0
until_refused zero (Some front) = 0
until_refused (suc most) (Some front) = suc (until_refused most (hear_at (next_place front) front Dominant))

-- How many bit times later than that of the transmitter of f, which is at the hit, the receivers' error comes. It is at the hit too if a
-- stuff bit is hit, or a level after the stuffed part. Otherwise the receivers sample the dominant levels of the transmitter's error flag
-- until one of them is an error.
unfoldable pub lateness : Parts → ℕ → ℕ
lateness f offset = until_refused 6 (heard_levels first_front (drop 1 (struck f offset 0)))

-- The place of the level that is an error, from kind and place of a decoder's fault. It is the same place, except for a wrong CRC
-- sequence. This is no error by itself: the dominant CRC delimiter after it is.
abbrev pub refused_place : CodeFaultKind → ℕ → ℕ
refused_place Crc place = place + 1
refused_place kind place = place

-- The levels of an attempt. If it is not hit, they are those of its frame, and three of intermission. If it is hit, they are those of its
-- frame before the hit, the opposite of the level there, the error flags (six dominant levels of the transmitter, and as many more as the
-- receivers' error comes later), and eleven recessive levels of delimiter and intermission.
abbrev pub attempt_levels : Parts → Option ℕ → List Level
attempt_levels f None = with_intermission f
attempt_levels f (Some offset) = struck f offset (6 + lateness f offset) ++ replicate idle_row Recessive
