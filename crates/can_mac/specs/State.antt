-- The state of a controller's medium access. (docs/ACCESS.md, "Medium access")
use Rattle.std.specs.Prelude.{ℕ, ◌≡◌, ◌≢◌, ◌<◌, ◌≤◌, Bool, true, false, length, Option, Some, None}
use Rattle.can_frame.specs.Parts.{Parts, IsFrame}
use Rattle.can_frame.specs.IdleRow.{idle_row}
use Rattle.can_code.specs.declared.front.Place.TheVariants.{CrcDelimiter as ended}
use Rattle.can_code.specs.Front.{FrontParts, IsFront, next_place}
use Rattle.can_fault.specs.Counters.{ConfineParts, IsConfine, fresh, is_bus_off}
use Rattle.can_mac.specs.declared.phase.Phase.{Phase}
use Rattle.can_mac.specs.declared.phase.Phase.TheVariants.{Joining, Idle, StuffedPart, CrcDelimiter, AckSlot, AckDelimiter, EndOfFrame, ErrorFlag, PassiveFlag, OverloadFlag, AfterFlag, Delimiter, Intermission, Suspend, BusOff}
use Rattle.can_mac.specs.declared.phase.Role.{Role}
use Rattle.can_mac.specs.declared.phase.Role.TheVariants.{Receiver, Sender}
use Rattle.can_mac.specs.declared.phase.Overloads.{Overloads}
use Rattle.can_terms.specs.declared.phase_kind.PhaseKind.{PhaseKind}
use Rattle.can_terms.specs.declared.phase_kind.PhaseKind.TheVariants as kind

-- the phase of a controller; in the stuffed part it has the front received so far
abbrev pub MacPhase : Type 0
MacPhase = Phase FrontParts

-- the phase; transmitter or receiver; its own overload frames; its error counters
pub record MacState : Type 0 where
  pub phase : MacPhase
  pub role : Role
  pub overloads : Overloads
  pub counters : ConfineParts

-- no overload frame is requested, and none has been started
abbrev pub no_overloads : Overloads
no_overloads = record { pending = 0; used = 0 }

-- a receiver in this phase, with all counts 0
abbrev pub starting : MacPhase → MacState
starting phase = record { phase = phase; role = Receiver; overloads = no_overloads; counters = fresh }

-- an idle controller, on the bus, with all counts 0
abbrev pub idle : MacState
idle = starting Idle

-- a controller that joins the bus, with all counts 0
abbrev pub joining : MacState
joining = starting (Joining 0)

-- the phase without its contents
abbrev pub phase_kind : {F : Type 0} → Phase F → PhaseKind
phase_kind (Joining row) = kind.Joining
phase_kind Idle = kind.Idle
phase_kind (StuffedPart front) = kind.StuffedPart
phase_kind (CrcDelimiter r) = kind.CrcDelimiter
phase_kind (AckSlot r) = kind.AckSlot
phase_kind (AckDelimiter r) = kind.AckDelimiter
phase_kind (EndOfFrame r place) = kind.EndOfFrame
phase_kind (ErrorFlag place) = kind.ErrorFlag
phase_kind (PassiveFlag last run unacknowledged) = kind.PassiveFlag
phase_kind (OverloadFlag place) = kind.OverloadFlag
phase_kind (AfterFlag first dominant) = kind.AfterFlag
phase_kind (Delimiter place) = kind.Delimiter
phase_kind (Intermission place) = kind.Intermission
phase_kind (Suspend place) = kind.Suspend
phase_kind BusOff = kind.BusOff

-- how many levels of the phase have passed, as each phase counts them; during bus-off, how many sequences of eleven
-- recessive levels; 0 in a phase of one level, and when idle (docs/NAMES.md)
abbrev pub phase_place : MacPhase → ℕ → ℕ
phase_place (Joining row) sequences = row
phase_place Idle sequences = 0
phase_place (StuffedPart front) sequences = length front.unstuffed
phase_place (CrcDelimiter r) sequences = 0
phase_place (AckSlot r) sequences = 0
phase_place (AckDelimiter r) sequences = 0
phase_place (EndOfFrame r place) sequences = place
phase_place (ErrorFlag place) sequences = place
phase_place (PassiveFlag last run unacknowledged) sequences = run
phase_place (OverloadFlag place) sequences = place
phase_place (AfterFlag first dominant) sequences = dominant
phase_place (Delimiter place) sequences = place
phase_place (Intermission place) sequences = place
phase_place (Suspend place) sequences = place
phase_place BusOff sequences = sequences

-- the phase of a controller, and how far it has got in it
abbrev pub kind_of : MacState → PhaseKind
kind_of m = phase_kind m.phase

abbrev pub place_of : MacState → ℕ
place_of m = phase_place m.phase m.counters.occurrences

-- the phase is bus off
abbrev pub is_off_phase : MacPhase → Bool
is_off_phase BusOff = true
is_off_phase (Joining row) = false
is_off_phase Idle = false
is_off_phase (StuffedPart front) = false
is_off_phase (CrcDelimiter r) = false
is_off_phase (AckSlot r) = false
is_off_phase (AckDelimiter r) = false
is_off_phase (EndOfFrame r place) = false
is_off_phase (ErrorFlag place) = false
is_off_phase (PassiveFlag last run unacknowledged) = false
is_off_phase (OverloadFlag place) = false
is_off_phase (AfterFlag first dominant) = false
is_off_phase (Delimiter place) = false
is_off_phase (Intermission place) = false
is_off_phase (Suspend place) = false

-- The invariant of controllers.

-- a front whose stuffed part is not complete
pub record IsOpen (f : FrontParts) : Type 0 where
  pub front : IsFront f
  pub goes_on : next_place f ≢ ended

-- the numbers of each phase are in range, and its frame is within its limits
abbrev pub IsPhase : MacPhase → Type 0
IsPhase (Joining row) = row < idle_row
IsPhase Idle = Unit {0}
IsPhase (StuffedPart front) = IsOpen front
IsPhase (CrcDelimiter r) = IsFrame r.frame
IsPhase (AckSlot r) = IsFrame r.frame
IsPhase (AckDelimiter r) = IsFrame r.frame
IsPhase (EndOfFrame r place) = IsFrame r.frame × (place < 7)
IsPhase (ErrorFlag place) = place < 6
IsPhase (PassiveFlag last run unacknowledged) = run < 6
IsPhase (OverloadFlag place) = place < 6
IsPhase (AfterFlag first dominant) = dominant < 8
IsPhase (Delimiter place) = (1 ≤ place) × (place < 8)
IsPhase (Intermission place) = place < 3
IsPhase (Suspend place) = place < 8
IsPhase BusOff = Unit {0}

abbrev pub IsRole : Role → Type 0
IsRole Receiver = Unit {0}
IsRole (Sender f) = IsFrame f

-- it is the transmitter
abbrev pub is_sender : Role → Bool
is_sender Receiver = false
is_sender (Sender f) = true

-- the pending frame, if there is one, is within its limits
abbrev pub IsFrameOrNone : Option Parts → Type 0
IsFrameOrNone None = Unit {0}
IsFrameOrNone (Some f) = IsFrame f

-- the invariant: phase and role as above, at most two overload frames, counters in range
pub record IsMac (m : MacState) : Type 0 where
  pub phase : IsPhase m.phase
  pub role : IsRole m.role
  pub pending : m.overloads.pending ≤ 2
  pub used : m.overloads.used ≤ 2
  pub counters : IsConfine m.counters
  -- bus off exactly when the counters say so
  pub off : is_off_phase m.phase ≡ is_bus_off m.counters
