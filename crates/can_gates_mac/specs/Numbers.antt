-- The numbers with which a circuit's registers hold a controller: of phases and places, of causes, and of events.
use Rattle.std.specs.Prelude.{ℕ, Bool, true, false, Option, Some, None}
use Rattle.can_frame.specs.Levels.{is_recessive}
use Rattle.can_frame.specs.Parts.{Parts}
use Rattle.can_fault.specs.declared.cause.Cause.{Cause}
use Rattle.can_fault.specs.declared.cause.Cause.TheVariants.{ReceiverError, ReceiverFlagBit, ReceiverFirstDominant, ReceiverDominantRun, SenderError, SenderFlagBit, SenderDominantRun, PassiveUnacknowledged, FrameSent, FrameReceived}
use Rattle.can_mac.specs.declared.phase.Reading.{Reading}
use Rattle.can_mac.specs.declared.phase.Phase.TheVariants.{Joining, Idle, StuffedPart, CrcDelimiter, AckSlot, AckDelimiter, EndOfFrame, ErrorFlag, PassiveFlag, OverloadFlag, AfterFlag, Delimiter, Intermission, Suspend, BusOff}
use Rattle.can_terms.specs.declared.phase_kind.PhaseKind.{PhaseKind}
use Rattle.can_terms.specs.declared.phase_kind.PhaseKind.TheVariants as kind
use Rattle.can_terms.specs.Codes.{event_code, phase_code}
use Rattle.can_mac.specs.State.{MacPhase}
pub use Rattle.can_mac.specs.State.{is_sender}
use Rattle.can_mac.specs.Moves.{MacMove}

-- Phases.

-- the phase's own number; the place in it, or how many levels in a row it has counted; whether the last level in a
-- passive error flag was recessive; whether the flag is that of a transmitter without acknowledgment; whether the next
-- level is the first after an error flag
pub record PhaseNumbers : Type 0 where
  pub phase : ℕ
  pub place : ℕ
  pub last : Bool
  pub unacknowledged : Bool
  pub first : Bool

-- a phase that uses only its number and its place
abbrev pub at_place : PhaseKind → ℕ → PhaseNumbers
at_place phase place = record { phase = phase_code phase; place = place; last = false; unacknowledged = false; first = false }

-- the numbers of a phase
abbrev pub phase_numbers : MacPhase → PhaseNumbers
phase_numbers Idle = at_place kind.Idle 0
phase_numbers (Joining row) = at_place kind.Joining row
phase_numbers (StuffedPart front) = at_place kind.StuffedPart 0
phase_numbers (CrcDelimiter r) = at_place kind.CrcDelimiter 0
phase_numbers (AckSlot r) = at_place kind.AckSlot 0
phase_numbers (AckDelimiter r) = at_place kind.AckDelimiter 0
phase_numbers (EndOfFrame r place) = at_place kind.EndOfFrame place
phase_numbers (ErrorFlag place) = at_place kind.ErrorFlag place
phase_numbers (PassiveFlag last run unacknowledged) =
    record (at_place kind.PassiveFlag run) { last = is_recessive last; unacknowledged = unacknowledged }
phase_numbers (OverloadFlag place) = at_place kind.OverloadFlag place
phase_numbers (AfterFlag first dominant) = record (at_place kind.AfterFlag dominant) { first = first }
phase_numbers (Delimiter place) = at_place kind.Delimiter place
phase_numbers (Intermission place) = at_place kind.Intermission place
phase_numbers (Suspend place) = at_place kind.Suspend place
phase_numbers BusOff = at_place kind.BusOff 0

-- each of them by itself
abbrev pub phase_number : MacPhase → ℕ
phase_number p = (phase_numbers p).phase

abbrev pub place_number : MacPhase → ℕ
place_number p = (phase_numbers p).place

abbrev pub last_recessive : MacPhase → Bool
last_recessive p = (phase_numbers p).last

abbrev pub unacknowledged_of : MacPhase → Bool
unacknowledged_of p = (phase_numbers p).unacknowledged

abbrev pub is_first : MacPhase → Bool
is_first p = (phase_numbers p).first

-- the reading of the stuffed part, in the later phases of a frame
abbrev pub reading_in : MacPhase → Option Reading
reading_in (CrcDelimiter r) = Some r
reading_in (AckSlot r) = Some r
reading_in (AckDelimiter r) = Some r
reading_in (EndOfFrame r place) = Some r
reading_in Idle = None
reading_in (Joining row) = None
reading_in (StuffedPart front) = None
reading_in (ErrorFlag place) = None
reading_in (PassiveFlag last run unacknowledged) = None
reading_in (OverloadFlag place) = None
reading_in (AfterFlag first dominant) = None
reading_in (Delimiter place) = None
reading_in (Intermission place) = None
reading_in (Suspend place) = None
reading_in BusOff = None

-- a frame is pending
abbrev pub is_waiting : Option Parts → Bool
is_waiting None = false
is_waiting (Some f) = true

-- Causes and events.

-- the number of a cause: an error of a receiver counts 1 or 8, one of a transmitter 8; then a frame sent, and a frame
-- received
abbrev pub cause_number : Option Cause → ℕ
cause_number None = 0
cause_number (Some ReceiverError) = 1
cause_number (Some ReceiverFlagBit) = 2
cause_number (Some ReceiverFirstDominant) = 2
cause_number (Some ReceiverDominantRun) = 2
cause_number (Some SenderError) = 3
cause_number (Some SenderFlagBit) = 3
cause_number (Some SenderDominantRun) = 3
cause_number (Some PassiveUnacknowledged) = 3
cause_number (Some FrameSent) = 4
cause_number (Some FrameReceived) = 5

-- Moves.

-- a controller without its counters and frames, with cause and event
pub record Numbers : Type 0 where
  pub phase : ℕ
  pub place : ℕ
  pub last : Bool
  pub unacknowledged : Bool
  pub first : Bool
  pub sender : Bool
  pub pending : ℕ
  pub used : ℕ
  pub cause : ℕ
  pub event : ℕ

-- the numbers of a move
abbrev pub numbers : MacMove → Numbers
numbers m = record {
  phase = phase_number m.phase;
  place = place_number m.phase;
  last = last_recessive m.phase;
  unacknowledged = unacknowledged_of m.phase;
  first = is_first m.phase;
  sender = is_sender m.role;
  pending = m.overloads.pending;
  used = m.overloads.used;
  cause = cause_number m.cause;
  event = event_code m.event;
}
