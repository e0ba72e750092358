-- The words for phases and events. (docs/NAMES.md)
use Rattle.std.specs.Prelude.{ℕ, Bool, true, false, List, codes}
use Rattle.can_terms.specs.declared.event.ErrorKind.{ErrorKind}
use Rattle.can_terms.specs.declared.event.ErrorKind.TheVariants.{Bit, Stuff, Crc, Form, Ack}
use Rattle.can_terms.specs.declared.event.EventKind.{EventKind}
use Rattle.can_terms.specs.declared.event.EventKind.TheVariants.{Sent, Received, Lost, Error, Overload, WentOff, Recovered}
use Rattle.can_terms.specs.declared.phase_kind.PhaseKind.{PhaseKind}
use Rattle.can_terms.specs.declared.phase_kind.PhaseKind.TheVariants.{Idle, Joining, StuffedPart, CrcDelimiter, AckSlot, AckDelimiter, EndOfFrame, ErrorFlag, PassiveFlag, OverloadFlag, AfterFlag, Delimiter, Intermission, Suspend, BusOff}

abbrev pub error_word : ErrorKind → List ℕ
error_word Bit = codes "bit error"
error_word Stuff = codes "stuff error"
error_word Crc = codes "crc error"
error_word Form = codes "form error"
error_word Ack = codes "ack error"

abbrev pub kind_word : EventKind → List ℕ
kind_word Sent = codes "sent"
kind_word Received = codes "received"
kind_word Lost = codes "lost"
kind_word (Error kind) = error_word kind
kind_word Overload = codes "overload"
kind_word WentOff = codes "went off"
kind_word Recovered = codes "recovered"

abbrev pub phase_word : PhaseKind → List ℕ
phase_word Idle = codes "idle"
phase_word Joining = codes "joining"
phase_word StuffedPart = codes "stuffed-part"
phase_word CrcDelimiter = codes "crc-delimiter"
phase_word AckSlot = codes "ack-slot"
phase_word AckDelimiter = codes "ack-delimiter"
phase_word EndOfFrame = codes "end-of-frame"
phase_word ErrorFlag = codes "error-flag"
phase_word PassiveFlag = codes "passive-flag"
phase_word OverloadFlag = codes "overload-flag"
phase_word AfterFlag = codes "after-flag"
phase_word Delimiter = codes "delimiter"
phase_word Intermission = codes "intermission"
phase_word Suspend = codes "suspend"
phase_word BusOff = codes "bus-off"

-- whether a phase has a place: not if it has one level, nor if the bus is idle
abbrev pub has_place : PhaseKind → Bool
has_place Idle = false
has_place CrcDelimiter = false
has_place AckSlot = false
has_place AckDelimiter = false
has_place _ = true
