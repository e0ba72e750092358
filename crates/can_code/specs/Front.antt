-- The front of a frame as it is received, level by level: from the start of frame to the end of the stuffed part.
-- (Bosch CAN 2.0 part B, sections 3.2.1 and 6)
use Rattle.std.specs.Prelude.{ℕ, ◌≡◌, ◌≤◌, ◌==◌, Option, Some, None, option_and_then, Bool, ◌&&◌, if◌then◌else◌, List, [], ◌∷◌, ◌++◌, length, take}
use Rattle.can_frame.specs.declared.level.Level.{Level}
use Rattle.can_frame.specs.declared.level.Level.TheVariants.{Dominant}
use Rattle.can_frame.specs.Levels.{same}
use Rattle.can_code.specs.declared.front.Place.{Place}
use Rattle.can_code.specs.declared.front.Place.TheVariants.{StuffBit, Bit, CrcDelimiter}
use Rattle.can_wire.specs.Stuffing.{run_after}
use Rattle.can_wire.specs.Layout.{frame_len}

-- what has been received of a frame: its unstuffed levels, the start of frame first; the last level, which may be a
-- stuff bit; and the length of the run of equal levels that it ends
pub record FrontParts : Type 0 where
  pub unstuffed : List Level
  pub last : Level
  pub run : ℕ

-- the front after the start of frame
abbrev pub first_front : FrontParts
first_front = record { unstuffed = Dominant ∷ []; last = Dominant; run = 1 }

-- the unstuffed levels include their whole CRC sequence
abbrev pub has_check : List Level → Bool
has_check u = frame_len u == length u

-- The next place: a stuff bit exactly if the run is five. The stuffed part has ended if the unstuffed levels include
-- their whole CRC sequence and no stuff bit is next.
abbrev pub next_place : FrontParts → Place
next_place f = if f.run == 5 then StuffBit else if has_check f.unstuffed then CrcDelimiter else Bit

-- a stuff error: a stuff bit has the level of the bit before it
abbrev pub is_stuff_error : FrontParts → Level → Bool
is_stuff_error f x = f.run == 5 && same x f.last

-- The front after one more level. A stuff bit does not change the unstuffed levels, and begins a run; any other level
-- is appended to them. Last level and run follow.
abbrev pub heard_level : FrontParts → Level → FrontParts
heard_level f x =
    if f.run == 5 then record { unstuffed = f.unstuffed; last = x; run = 1 }
    else record { unstuffed = f.unstuffed ++ x ∷ []; last = x; run = run_after f.last f.run x }

-- what is true of every front
pub record IsFront (f : FrontParts) : Type 0 where
  pub start : take 1 f.unstuffed ≡ Dominant ∷ []
  pub within : length f.unstuffed ≤ frame_len f.unstuffed
  pub some : 1 ≤ f.run
  pub short : f.run ≤ 5

-- the front after one level at this place, or none on a stuff error or after the stuffed part
abbrev pub hear_at : Place → FrontParts → Level → Option FrontParts
hear_at StuffBit f x = if is_stuff_error f x then None else Some (heard_level f x)
hear_at Bit f x = Some (heard_level f x)
hear_at CrcDelimiter f x = None

-- the front after these levels, one after another, if none of them is refused
abbrev pub heard_levels : FrontParts → List Level → Option FrontParts
heard_levels f [] = Some f
heard_levels f (x ∷ xs) = option_and_then (λ g. heard_levels g xs) (hear_at (next_place f) f x)
