-- The frame of a controller in a circuit's registers.
use Rattle.std.specs.Prelude.{ℕ, ◌≡◌, ◌<◌, ◌≤◌, Bool, true, false, List, length, Option, Some}
use Rattle.can_frame.specs.declared.level.Level.{Level}
use Rattle.can_frame.specs.Levels.{is_recessive}
use Rattle.can_frame.specs.Parts.{Parts}
use Rattle.can_wire.specs.Layout.{IsComplete}
use Rattle.can_code.specs.Front.{FrontParts}
use Rattle.can_mac.specs.declared.phase.Reading.{Reading}
use Rattle.can_mac.specs.declared.phase.Phase.TheVariants.{Joining, Idle, StuffedPart, CrcDelimiter, AckSlot, AckDelimiter, EndOfFrame, ErrorFlag, PassiveFlag, OverloadFlag, AfterFlag, Delimiter, Intermission, Suspend, BusOff}
use Rattle.can_mac.specs.State.{MacPhase, MacState}
use Rattle.can_mac.specs.Moves.{reading_of}
use Rattle.can_gates.specs.Circuit.{value}
use Rattle.can_gates.specs.Words.{number}
use Rattle.can_gates_mac.specs.Numbers.{reading_in, is_waiting}
use Rattle.can_gates_mac.specs.Inputs.{TellsReading}
use Rattle.can_gates_mac.specs.Nibbles.{nibble}
use Rattle.can_gates_controller.specs.declared.heard.Heard.{Heard}
use Rattle.can_gates_controller.specs.declared.seen.Seen.{Seen}
use Rattle.can_gates_controller.specs.Fronts.{HoldsLevels, HoldsCheck, HoldsFront, TellsSender}

-- whether a frame is on the bus that is neither over nor aborted: in its stuffed part, or after that
abbrev pub is_in_frame : MacPhase → Bool
is_in_frame (StuffedPart front) = true
is_in_frame (CrcDelimiter r) = true
is_in_frame (AckSlot r) = true
is_in_frame (AckDelimiter r) = true
is_in_frame (EndOfFrame r place) = true
is_in_frame Idle = false
is_in_frame (Joining row) = false
is_in_frame (ErrorFlag place) = false
is_in_frame (PassiveFlag last run unacknowledged) = false
is_in_frame (OverloadFlag place) = false
is_in_frame (AfterFlag first dominant) = false
is_in_frame (Delimiter place) = false
is_in_frame (Intermission place) = false
is_in_frame (Suspend place) = false
is_in_frame BusOff = false

-- the registers have the unstuffed bits of a frame with this reading, their number, the run that ended with them, after
-- which no stuff bit is due, and their CRC
pub record HoldsTold (v : ℕ → Bool) (k : Heard) (r : Reading) : Type 0 where
  pub unstuffed : List Level
  pub complete : IsComplete unstuffed
  pub told : r ≡ reading_of unstuffed
  pub levels : HoldsLevels v k.levels unstuffed
  pub count : number v k.count ≡ length unstuffed
  pub some : 1 ≤ nibble v k.run
  pub short : nibble v k.run < 5
  pub check : HoldsCheck v k.check unstuffed

-- in a frame the registers hold what has been received of it: in its stuffed part the levels so far, after that its
-- reading
pub record HoldsHeard (v : ℕ → Bool) (k : Heard) (p : MacPhase) : Type 0 where
  pub front : (front : FrontParts) → p ≡ StuffedPart front → HoldsFront v k front
  pub told : (r : Reading) → reading_in p ≡ Some r → HoldsTold v k r

-- what a controller reads besides its registers, with this pending frame and this sampled level
pub record IsSeen (v : ℕ → Bool) (k : Seen) (m : MacState) (waiting : Option Parts) (x : Level) : Type 0 where
  pub waits : value v k.waits ≡ is_waiting waiting
  pub seen : value v k.seen ≡ is_recessive x
  pub agrees : TellsReading m.phase (value v k.agrees)
  pub sender : (front : FrontParts) → m.phase ≡ StuffedPart front → TellsSender v k.sent k.extended m.role front
