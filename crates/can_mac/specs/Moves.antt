-- The transition of each phase for a level on the bus. (Bosch CAN 2.0 part B, sections 3.2, 5, 7 and 8) Brackets name rules of
-- docs/ACCESS.md.
use Rattle.std.specs.Prelude.{ℕ, ◌+◌, ◌-◌, ◌==◌, nat_lt, nat_le, Bool, true, false, ◌&&◌, not, if◌then◌else◌, List, length, Option, Some, None}
use Rattle.std.specs.Cmp.Lexicographic.{pointwise}
use Rattle.can_frame.specs.declared.level.Level.{Level}
use Rattle.can_frame.specs.declared.level.Level.TheVariants.{Dominant, Recessive}
use Rattle.can_frame.specs.Levels.{same, is_recessive}
use Rattle.can_frame.specs.Parts.{Parts}
use Rattle.can_frame.specs.IdleRow.{idle_row}
use Rattle.can_wire.specs.Crc.{crc_of}
use Rattle.can_wire.specs.Stuffing.{run_after}
use Rattle.can_code.specs.Sending.{sent_level}
use Rattle.can_wire.specs.Layout.{frame_of, head_of, check_of, rtr_place}
use Rattle.can_code.specs.Front.{FrontParts, first_front, has_check, heard_level}
use Rattle.can_fault.specs.declared.cause.Cause.{Cause}
use Rattle.can_fault.specs.declared.cause.Cause.TheVariants.{ReceiverError, ReceiverFlagBit, ReceiverFirstDominant, ReceiverDominantRun, SenderError, SenderFlagBit, SenderDominantRun, PassiveUnacknowledged, FrameSent, FrameReceived}
use Rattle.can_terms.specs.declared.event.Event.{Event}
use Rattle.can_terms.specs.declared.event.Event.TheVariants.{Sent, Received, Lost, Error, Overload}
use Rattle.can_terms.specs.declared.event.ErrorKind.{ErrorKind}
use Rattle.can_terms.specs.declared.event.ErrorKind.TheVariants.{Bit, Stuff, Crc, Form, Ack}
use Rattle.can_mac.specs.declared.moves.Move.{Move}
use Rattle.can_mac.specs.declared.moves.Stance.{Stance}
use Rattle.can_mac.specs.declared.phase.Reading.{Reading}
use Rattle.can_mac.specs.declared.phase.Role.{Role}
use Rattle.can_mac.specs.declared.phase.Role.TheVariants.{Receiver, Sender}
use Rattle.can_mac.specs.declared.phase.Phase.TheVariants.{Joining, Idle, StuffedPart, CrcDelimiter, AckSlot, AckDelimiter, EndOfFrame, ErrorFlag, PassiveFlag, OverloadFlag, AfterFlag, Delimiter, Intermission, Suspend, BusOff}
use Rattle.can_mac.specs.State.{MacPhase}

-- a transition of a controller
abbrev pub MacMove : Type 0
MacMove = Move MacPhase

-- the second phase, or if there is none the first
abbrev pub phase_after : MacPhase → Option MacPhase → MacPhase
phase_after kept None = kept
phase_after kept (Some phase) = phase

-- a transition that keeps the phase if it names none
abbrev pub move_keeping : MacPhase → Move (Option MacPhase) → MacMove
move_keeping kept v = record { phase = phase_after kept v.phase; role = v.role; overloads = v.overloads; cause = v.cause; event = v.event }

-- only the phase changes
abbrev pub goes : Stance → MacPhase → MacMove
goes s phase = record { phase = phase; role = s.role; overloads = s.overloads; cause = None; event = None }

-- the phase changes, and this event is reported
abbrev pub tells : Stance → MacPhase → Event → MacMove
tells s phase event = record { phase = phase; role = s.role; overloads = s.overloads; cause = None; event = Some event }

-- [Overload flags] an overload flag starts
abbrev pub overload : Stance → MacMove
overload s = tells s (OverloadFlag 0) Overload

-- [Start of frame] a frame begins
abbrev pub begins_frame : Stance → Role → MacMove
begins_frame s role = record {
  phase = StuffedPart first_front;
  role = role;
  overloads = record { pending = s.overloads.pending; used = 0 };
  cause = None;
  event = None;
}

-- Errors.

-- [Error flags] the error flag that starts, passive at an error passive controller
abbrev pub flag : Bool → Bool → MacPhase
flag passive unacknowledged = if passive then PassiveFlag Recessive 0 unacknowledged else ErrorFlag 0

-- an error with this cause
abbrev pub errs_by : Option Cause → Bool → Stance → ErrorKind → MacMove
errs_by cause unacknowledged s kind = record {
  phase = flag s.passive unacknowledged;
  role = s.role;
  overloads = s.overloads;
  cause = cause;
  event = Some (Error kind);
}

-- the cause of an error in a frame or in a delimiter
abbrev pub error_cause : Role → Cause
error_cause Receiver = ReceiverError
error_cause (Sender f) = SenderError

-- the cause of a bit error in an own flag
abbrev pub flag_bit_cause : Role → Cause
flag_bit_cause Receiver = ReceiverFlagBit
flag_bit_cause (Sender f) = SenderFlagBit

-- an error in a frame or in a delimiter
abbrev pub errs : Stance → ErrorKind → MacMove
errs s kind = errs_by (Some (error_cause s.role)) false s kind

-- [Error in an own flag] a bit error in an own active error flag or overload flag
abbrev pub errs_in_flag : Stance → MacMove
errs_in_flag s = errs_by (Some (flag_bit_cause s.role)) false s Bit

-- [Fixed form] a bit of fixed form with the wrong level is a form error, for its transmitter a bit error
abbrev pub form_kind : Role → ErrorKind
form_kind Receiver = Form
form_kind (Sender f) = Bit

-- Joining, and idle: [Joining], [Start of frame], [Kept frame].

abbrev pub joining_move : Stance → ℕ → Level → MacMove
joining_move s row Dominant = goes s (Joining 0)
joining_move s row Recessive = if nat_lt row (idle_row - 1) then goes s (Joining (row + 1)) else goes s Idle

abbrev pub idle_move : Stance → Option Parts → Level → MacMove
idle_move s None Dominant = begins_frame s Receiver
idle_move s None Recessive = goes s Idle
idle_move s (Some f) Dominant = begins_frame s (Sender f)
-- the dominant level that it drives as start of frame is not on the bus
idle_move s (Some f) Recessive = errs (record s { role = Sender f }) Bit

-- The stuffed part.

-- whether the CRC sequence is the one computed from the levels before it
unfoldable pub agrees : List Level → Bool
agrees u = pointwise same (check_of u) (crc_of (head_of u))

-- what the unstuffed levels encode
abbrev pub reading_of : List Level → Reading
reading_of u = record { frame = frame_of u; agrees = agrees u }

-- [End of the stuffed part] the unstuffed levels have the whole CRC sequence, and no stuff bit is due
abbrev pub ends_part : FrontParts → Bool
ends_part front = has_check front.unstuffed && not (front.run == 5)

abbrev pub part_phase : FrontParts → MacPhase
part_phase front = if ends_part front then CrcDelimiter (reading_of front.unstuffed) else StuffedPart front

abbrev pub hears : Stance → FrontParts → Level → MacMove
hears s front x = goes s (part_phase (heard_level front x))

-- the next unstuffed level is before or at the RTR bit of the frame's format: identifier, RTR, and in an extended frame SRR and IDE
abbrev pub in_arbitration : Parts → List Level → Bool
in_arbitration f u = nat_le (length u) (rtr_place f.id.extended)

-- [Overridden stuff bit] in arbitration a transmitter sent a recessive stuff bit and saw dominant: this counts nothing
abbrev pub is_uncounted : Role → List Level → Level → Bool
is_uncounted Receiver u x = false
is_uncounted (Sender f) u Dominant = in_arbitration f u
is_uncounted (Sender f) u Recessive = false

-- [Stuff places] a level that repeats the five before it is a stuff error
abbrev pub stuff_error_move : Stance → FrontParts → Level → MacMove
stuff_error_move s front x = if is_uncounted s.role front.unstuffed x then errs_by None false s Stuff else errs s Stuff

abbrev pub stuff_bit_move : Stance → FrontParts → Level → MacMove
stuff_bit_move s front x = if same x front.last then stuff_error_move s front x else hears s front x

-- [Arbitration] the transmitter of f sent the first level and saw the second. If it sent recessive and saw dominant, up to and including
-- its RTR bit, it loses arbitration.
abbrev pub sent_bit_move : Stance → Parts → FrontParts → Level → Level → MacMove
sent_bit_move s f front Dominant Dominant = hears s front Dominant
sent_bit_move s f front Recessive Recessive = hears s front Recessive
sent_bit_move s f front Dominant Recessive = errs s Bit
sent_bit_move s f front Recessive Dominant =
    if in_arbitration f front.unstuffed then record (hears s front Dominant) { role = Receiver; event = Some Lost } else errs s Bit

abbrev pub bit_move : Stance → Role → FrontParts → Level → MacMove
bit_move s Receiver front x = hears s front x
bit_move s (Sender f) front x = sent_bit_move s f front (sent_level f (length front.unstuffed)) x

abbrev pub stuffed_part_move : Stance → FrontParts → Level → MacMove
stuffed_part_move s front x = if front.run == 5 then stuff_bit_move s front x else bit_move s s.role front x

-- The end of a frame.

abbrev pub crc_delimiter_move : Stance → Reading → Level → MacMove
crc_delimiter_move s r Recessive = goes s (AckSlot r)
crc_delimiter_move s r Dominant = errs s (form_kind s.role)

-- [Unacknowledged passive sender] a transmitter without acknowledgment, which counts nothing yet if it is error passive
abbrev pub unacknowledged_move : Stance → MacMove
unacknowledged_move s = if s.passive then errs_by None true s Ack else errs s Ack

abbrev pub ack_slot_move : Stance → Role → Reading → Level → MacMove
ack_slot_move s (Sender f) r Dominant = goes s (AckDelimiter r)
ack_slot_move s (Sender f) r Recessive = unacknowledged_move s
-- [Acknowledgement] a receiver that found the CRC sequence right drives dominant; another one only listens
ack_slot_move s Receiver r Dominant =
    if r.agrees then record (goes s (AckDelimiter r)) { cause = Some FrameReceived } else goes s (AckDelimiter r)
ack_slot_move s Receiver r Recessive = if r.agrees then errs s Bit else goes s (AckDelimiter r)

-- [Refused CRC sequence] a receiver that found the CRC sequence wrong
abbrev pub refuses : Role → Reading → Bool
refuses Receiver r = not r.agrees
refuses (Sender f) r = false

abbrev pub ack_delimiter_move : Stance → Reading → Level → MacMove
ack_delimiter_move s r Dominant = errs s (form_kind s.role)
ack_delimiter_move s r Recessive = if refuses s.role r then errs s Crc else goes s (EndOfFrame r 0)

-- [Own overload frames] intermission begins, or the flag of a requested overload frame at a receiver: at most two between two frames
abbrev pub enters_intermission : Stance → Role → MacMove
enters_intermission s (Sender f) = goes s (Intermission 0)
enters_intermission s Receiver =
    if nat_lt 0 s.overloads.pending && nat_lt s.overloads.used 2
    then record (overload s) { overloads = record { pending = s.overloads.pending - 1; used = s.overloads.used + 1 } }
    else goes s (Intermission 0)

-- [Frame validation] for the transmitter the frame is valid if no level of the end of frame is dominant
abbrev pub sender_end_move : Stance → Parts → Reading → ℕ → Level → MacMove
sender_end_move s f r place Dominant = errs s Bit
sender_end_move s f r place Recessive =
    if nat_lt place 6
    then goes s (EndOfFrame r (place + 1))
    else record (enters_intermission s s.role) { cause = Some FrameSent; event = Some (Sent f) }

-- [Frame validation], [Dominant last level] for a receiver the frame is valid if no level before the last is dominant
abbrev pub receiver_end_move : Stance → Reading → ℕ → Level → MacMove
receiver_end_move s r place Dominant = if nat_lt place 6 then errs s Form else overload s
receiver_end_move s r place Recessive =
    if nat_lt place 5 then goes s (EndOfFrame r (place + 1))
    else if nat_lt place 6 then tells s (EndOfFrame r 6) (Received r.frame)
    else enters_intermission s s.role

abbrev pub end_of_frame_move : Stance → Role → Reading → ℕ → Level → MacMove
end_of_frame_move s (Sender f) r place x = sender_end_move s f r place x
end_of_frame_move s Receiver r place x = receiver_end_move s r place x

-- Flags.

-- a flag of six dominant levels: the next place, or its end; a recessive level is a bit error
abbrev pub flag_move : Stance → (ℕ → MacPhase) → MacPhase → ℕ → Level → MacMove
flag_move s next ended place Dominant = if nat_lt place 5 then goes s (next (place + 1)) else goes s ended
flag_move s next ended place Recessive = errs_in_flag s

abbrev pub error_flag_move : Stance → ℕ → Level → MacMove
error_flag_move s place x = flag_move s (λ p. ErrorFlag p) (AfterFlag true 0) place x

abbrev pub overload_flag_move : Stance → ℕ → Level → MacMove
overload_flag_move s place x = flag_move s (λ p. OverloadFlag p) (AfterFlag false 0) place x

-- [Error flags] a passive flag is complete after six equal levels in a row
abbrev pub passive_phase : Level → ℕ → Bool → MacPhase
passive_phase x run unacknowledged = if nat_lt run 6 then PassiveFlag x run unacknowledged else AfterFlag true 0

-- [Unacknowledged passive sender] a dominant level is counted in the passive flag of a transmitter whose missing acknowledgment has not
-- been counted
abbrev pub passive_flag_move : Stance → Level → ℕ → Bool → Level → MacMove
passive_flag_move s last run unacknowledged x =
    record (goes s (passive_phase x (run_after last run x) (unacknowledged && is_recessive x)))
    { cause = if unacknowledged && not (is_recessive x) then Some PassiveUnacknowledged else None }

-- [After a flag] the cause of a dominant level after a flag: for a receiver the first one after an error flag, for any controller every
-- eighth in a row
abbrev pub dominant_cause : Role → Bool → ℕ → Option Cause
dominant_cause Receiver first dominant =
    if first then Some ReceiverFirstDominant
    else if nat_lt dominant 7 then None else Some ReceiverDominantRun
dominant_cause (Sender f) first dominant = if nat_lt dominant 7 then None else Some SenderDominantRun

abbrev pub after_flag_move : Stance → Bool → ℕ → Level → MacMove
after_flag_move s first dominant Recessive = goes s (Delimiter 1)
after_flag_move s first dominant Dominant =
    record (goes s (AfterFlag false (if nat_lt dominant 7 then dominant + 1 else 0))) { cause = dominant_cause s.role first dominant }

-- [Delimiter]
abbrev pub delimiter_move : Stance → ℕ → Level → MacMove
delimiter_move s place Dominant = if nat_lt place 7 then errs s Form else overload s
delimiter_move s place Recessive = if nat_lt place 7 then goes s (Delimiter (place + 1)) else enters_intermission s s.role

-- Between frames.

-- [Suspend transmission] an error passive controller that was the transmitter
abbrev pub is_held_back : Stance → Role → Bool
is_held_back s Receiver = false
is_held_back s (Sender f) = s.passive

-- [Intermission], [Kept frame] transmitter or receiver of a frame that begins in the last bit of intermission
abbrev pub next_role : Bool → Option Parts → Role
next_role held_back None = Receiver
next_role held_back (Some f) = if held_back then Receiver else Sender f

abbrev pub intermission_move : Stance → ℕ → Option Parts → Level → MacMove
intermission_move s place waiting Dominant =
    if nat_lt place 2 then overload s else begins_frame s (next_role (is_held_back s s.role) waiting)
intermission_move s place waiting Recessive =
    if nat_lt place 2 then goes s (Intermission (place + 1))
    else if is_held_back s s.role then goes s (Suspend 0)
    else goes (record s { role = Receiver }) Idle

abbrev pub suspend_move : Stance → ℕ → Level → MacMove
suspend_move s place Dominant = begins_frame s Receiver
suspend_move s place Recessive = if nat_lt place 7 then goes s (Suspend (place + 1)) else goes (record s { role = Receiver }) Idle

-- All phases. During bus off no transition is made: levels count for recovery (`off_step`).
abbrev pub move : Stance → MacPhase → Option Parts → Level → MacMove
move s (Joining row) waiting x = joining_move s row x
move s Idle waiting x = idle_move s waiting x
move s (StuffedPart front) waiting x = stuffed_part_move s front x
move s (CrcDelimiter r) waiting x = crc_delimiter_move s r x
move s (AckSlot r) waiting x = ack_slot_move s s.role r x
move s (AckDelimiter r) waiting x = ack_delimiter_move s r x
move s (EndOfFrame r place) waiting x = end_of_frame_move s s.role r place x
move s (ErrorFlag place) waiting x = error_flag_move s place x
move s (PassiveFlag last run unacknowledged) waiting x = passive_flag_move s last run unacknowledged x
move s (OverloadFlag place) waiting x = overload_flag_move s place x
move s (AfterFlag first dominant) waiting x = after_flag_move s first dominant x
move s (Delimiter place) waiting x = delimiter_move s place x
move s (Intermission place) waiting x = intermission_move s place waiting x
move s (Suspend place) waiting x = suspend_move s place x
move s BusOff waiting x = goes s BusOff
