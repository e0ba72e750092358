-- Medium access, bit time by bit time: what a controller drives, and its next state for the level that it samples. (Bosch CAN 2.0 part B,
-- sections 3.2 and 7) Brackets name rules of docs/ACCESS.md.
use Rattle.std.specs.Prelude.{ℕ, ◌==◌, Bool, if◌then◌else◌, length, Option, Some, None}
use Rattle.can_frame.specs.declared.level.Level.{Level}
use Rattle.can_frame.specs.declared.level.Level.TheVariants.{Dominant, Recessive}
use Rattle.can_frame.specs.Levels.{opposite}
use Rattle.can_frame.specs.Parts.{Parts}
use Rattle.can_code.specs.Sending.{sent_level}
use Rattle.can_code.specs.Front.{FrontParts}
use Rattle.can_fault.specs.declared.cause.Cause.{Cause}
use Rattle.can_fault.specs.Counters.{ConfineParts, counted, is_bus_off, is_passive}
use Rattle.can_fault.specs.Recovery.{ends_bus_off, recovered}
use Rattle.can_terms.specs.declared.event.Event.{Event}
use Rattle.can_terms.specs.declared.event.Event.TheVariants.{WentOff, Recovered}
use Rattle.can_mac.specs.declared.moves.Stance.{Stance}
use Rattle.can_mac.specs.declared.phase.Role.{Role}
use Rattle.can_mac.specs.declared.phase.Role.TheVariants.{Receiver, Sender}
use Rattle.can_mac.specs.declared.phase.Phase.TheVariants.{Joining, Idle, StuffedPart, CrcDelimiter, AckSlot, AckDelimiter, EndOfFrame, ErrorFlag, PassiveFlag, OverloadFlag, AfterFlag, Delimiter, Intermission, Suspend, BusOff}
use Rattle.can_mac.specs.State.{MacPhase, MacState, is_off_phase}
use Rattle.can_mac.specs.Moves.{MacMove, move}

-- [Stuff places] after five equal levels a transmitter drives the opposite one, otherwise the next level of its frame
abbrev pub part_drives : Role → FrontParts → Level
part_drives Receiver front = Recessive
part_drives (Sender f) front = if front.run == 5 then opposite front.last else sent_level f (length front.unstuffed)

-- [Acknowledgement] a receiver that found the CRC sequence right drives dominant
abbrev pub slot_drives : Role → Bool → Level
slot_drives Receiver agrees = if agrees then Dominant else Recessive
slot_drives (Sender f) agrees = Recessive

-- [Start of frame] an idle controller with a pending frame drives dominant
abbrev pub idle_drives : Option Parts → Level
idle_drives None = Recessive
idle_drives (Some f) = Dominant

-- the level that a controller drives in each phase
abbrev pub phase_drives : MacPhase → Role → Option Parts → Level
phase_drives (Joining row) role waiting = Recessive
phase_drives Idle role waiting = idle_drives waiting
phase_drives (StuffedPart front) role waiting = part_drives role front
phase_drives (CrcDelimiter r) role waiting = Recessive
phase_drives (AckSlot r) role waiting = slot_drives role r.agrees
phase_drives (AckDelimiter r) role waiting = Recessive
phase_drives (EndOfFrame r place) role waiting = Recessive
phase_drives (ErrorFlag place) role waiting = Dominant
phase_drives (PassiveFlag last run unacknowledged) role waiting = Recessive
phase_drives (OverloadFlag place) role waiting = Dominant
phase_drives (AfterFlag first dominant) role waiting = Recessive
phase_drives (Delimiter place) role waiting = Recessive
phase_drives (Intermission place) role waiting = Recessive
phase_drives (Suspend place) role waiting = Recessive
phase_drives BusOff role waiting = Recessive

-- the level that a controller drives, with this pending frame
unfoldable pub mac_drives : MacState → Option Parts → Level
mac_drives m waiting = phase_drives m.phase m.role waiting

-- a phase in which a controller drives recessive with any pending frame and in any role: joining, passive error flag, bus off
pub data IsSilent : MacPhase → Type 0 where
  joining : (row : ℕ) → IsSilent (Joining row)
  passive_flag : (last : Level) (run : ℕ) (unacknowledged : Bool) → IsSilent (PassiveFlag last run unacknowledged)
  off : IsSilent BusOff

abbrev pub stance : MacState → Stance
stance m = record { passive = is_passive m.counters; role = m.role; overloads = m.overloads }

-- the state after a transition, with these counters
abbrev pub state_after_move : MacMove → ConfineParts → MacState
state_after_move v counters = record { phase = v.phase; role = v.role; overloads = v.overloads; counters = counters }

-- [Bus off] if what was counted makes the controller bus off, it reports `WentOff` instead of any other event
abbrev pub step_or_bus_off : MacMove → ConfineParts → MacState × Option Event
step_or_bus_off v counters =
    if is_bus_off counters then (record { phase = BusOff; role = Receiver; overloads = v.overloads; counters = counters }, Some WentOff)
    else (state_after_move v counters, v.event)

-- a transition and its cause, if there is one
abbrev pub step_counting : MacMove → ConfineParts → Option Cause → MacState × Option Event
step_counting v counters None = (state_after_move v counters, v.event)
step_counting v counters (Some cause) = step_or_bus_off v (counted cause counters)

-- [Bus off] during bus off each level counts for recovery
abbrev pub off_step : MacState → Level → MacState × Option Event
off_step m x =
    if ends_bus_off x m.counters then (record m { phase = Idle; counters = recovered x m.counters }, Some Recovered)
    else (record m { counters = recovered x m.counters }, None)

abbrev pub on_step : MacState → MacMove → MacState × Option Event
on_step m v = step_counting v m.counters v.cause

-- one bit time, with this pending frame and this level on the bus: the next state and the event
unfoldable pub mac_step : MacState → Option Parts → Level → MacState × Option Event
mac_step m waiting x = if is_off_phase m.phase then off_step m x else on_step m (move (stance m) m.phase waiting x)

-- the controller is asked for n overload frames, in place of earlier requests
abbrev pub holding : ℕ → MacState → MacState
holding n m = record m { overloads = record { pending = n; used = m.overloads.used } }
