-- The numbers of phases, events and kinds of error. (docs/NAMES.md)
use Rattle.std.specs.Prelude.{ℕ, Option, Some, None}
use Rattle.can_terms.specs.declared.event.ErrorKind.{ErrorKind}
use Rattle.can_terms.specs.declared.event.ErrorKind.TheVariants.{Bit, Stuff, Crc, Form, Ack}
use Rattle.can_terms.specs.declared.event.Event.{Event}
use Rattle.can_terms.specs.declared.event.Event.TheVariants as event
use Rattle.can_terms.specs.declared.event.EventKind.{EventKind}
use Rattle.can_terms.specs.declared.event.EventKind.TheVariants.{Sent, Received, Lost, Error, Overload, WentOff, Recovered}
use Rattle.can_terms.specs.declared.phase_kind.PhaseKind.{PhaseKind}
use Rattle.can_terms.specs.declared.phase_kind.PhaseKind.TheVariants.{Idle, Joining, StuffedPart, CrcDelimiter, AckSlot, AckDelimiter, EndOfFrame, ErrorFlag, PassiveFlag, OverloadFlag, AfterFlag, Delimiter, Intermission, Suspend, BusOff}

-- ---- events

-- an event without its frame
abbrev pub event_kind : Event → EventKind
event_kind (event.Sent f) = Sent
event_kind (event.Received f) = Received
event_kind event.Lost = Lost
event_kind (event.Error kind) = Error kind
event_kind event.Overload = Overload
event_kind event.WentOff = WentOff
event_kind event.Recovered = Recovered

abbrev pub error_code : ErrorKind → ℕ
error_code Bit = 4
error_code Stuff = 5
error_code Crc = 6
error_code Form = 7
error_code Ack = 8

abbrev pub kind_code : EventKind → ℕ
kind_code Sent = 1
kind_code Received = 2
kind_code Lost = 3
kind_code (Error kind) = error_code kind
kind_code Overload = 9
kind_code WentOff = 10
kind_code Recovered = 11

-- the event of a bit time, if there is one, without its frame
abbrev pub kind_of_event : Option Event → Option EventKind
kind_of_event None = None
kind_of_event (Some event) = Some (event_kind event)

-- the number of the event of a bit time, 0 if there is none
abbrev pub code_of_kind : Option EventKind → ℕ
code_of_kind None = 0
code_of_kind (Some kind) = kind_code kind

abbrev pub event_code : Option Event → ℕ
event_code event = code_of_kind (kind_of_event event)

-- ---- phases

abbrev pub phase_code : PhaseKind → ℕ
phase_code Idle = 0
phase_code Joining = 1
phase_code StuffedPart = 2
phase_code CrcDelimiter = 3
phase_code AckSlot = 4
phase_code AckDelimiter = 5
phase_code EndOfFrame = 6
phase_code ErrorFlag = 7
phase_code PassiveFlag = 8
phase_code OverloadFlag = 9
phase_code AfterFlag = 10
phase_code Delimiter = 11
phase_code Intermission = 12
phase_code Suspend = 13
phase_code BusOff = 14
