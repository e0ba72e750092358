-- The rule of docs/ACCESS.md that decides in a bit time, from the state of the controller before it. (Bosch CAN 2.0
-- part B, sections 3.2 and 7)
use Rattle.std.specs.Prelude.{ℕ, ◌==◌, if◌then◌else◌, Option, Some, None}
use Rattle.can_frame.specs.declared.level.Level.{Level}
use Rattle.can_frame.specs.declared.level.Level.TheVariants.{Dominant, Recessive}
use Rattle.can_code.specs.Front.{FrontParts}
use Rattle.can_terms.specs.declared.event.Event.{Event}
use Rattle.can_terms.specs.declared.event.Event.TheVariants.{Sent, Received, Lost, Error, Overload, WentOff, Recovered}
use Rattle.can_terms.specs.declared.event.ErrorKind.{ErrorKind}
use Rattle.can_terms.specs.declared.event.ErrorKind.TheVariants.{Bit, Stuff, Crc, Form, Ack}
use Rattle.can_mac.specs.declared.phase.Role.{Role}
use Rattle.can_mac.specs.declared.phase.Role.TheVariants.{Receiver, Sender}
use Rattle.can_mac.specs.declared.phase.Phase.TheVariants.{Joining, Idle, StuffedPart, CrcDelimiter, AckSlot, AckDelimiter, EndOfFrame, ErrorFlag, PassiveFlag, OverloadFlag, AfterFlag, Delimiter, Intermission, Suspend, BusOff}
use Rattle.can_mac.specs.State.{MacPhase, MacState}
use Rattle.can_mac.specs.Moves.{in_arbitration}
use Rattle.can_terms.specs.declared.phase_kind.PhaseKind.{PhaseKind}
use Rattle.can_terms.specs.declared.phase_kind.PhaseKind.TheVariants as kind
use Rattle.can_conform.specs.declared.standing.Rule.{Rule}
use Rattle.can_conform.specs.declared.standing.Rule.TheVariants as rule

-- the rule between start of frame and CRC sequence: stuff places for a receiver and at a stuff bit; for a transmitter
-- arbitration, up to and including its RTR bit, and then the frame that it keeps
abbrev pub stuffed_rule : FrontParts → Role → Rule
stuffed_rule front Receiver = rule.StuffPlaces
stuffed_rule front (Sender f) =
    if front.run == 5 then rule.StuffPlaces
    else if in_arbitration f front.unstuffed then rule.Arbitration else rule.KeptFrame

-- the rule that decides in a phase
abbrev pub phase_rule : MacPhase → Role → Rule
phase_rule (Joining row) role = rule.Joining
phase_rule Idle role = rule.StartOfFrame
phase_rule (StuffedPart front) role = stuffed_rule front role
phase_rule (CrcDelimiter r) role = rule.FixedForm
phase_rule (AckSlot r) role = rule.Acknowledgement
phase_rule (AckDelimiter r) role = rule.FixedForm
phase_rule (EndOfFrame r place) role = rule.FixedForm
phase_rule (ErrorFlag place) role = rule.ErrorFlags
phase_rule (PassiveFlag last run unacknowledged) role = rule.ErrorFlags
phase_rule (OverloadFlag place) role = rule.OverloadFlags
phase_rule (AfterFlag first dominant) role = rule.AfterAFlag
phase_rule (Delimiter place) role = rule.Delimiter
phase_rule (Intermission place) role = rule.Intermission
phase_rule (Suspend place) role = rule.SuspendTransmission
phase_rule BusOff role = rule.BusOff

-- the rule by which an error between start of frame and CRC sequence starts a flag
abbrev pub stuffed_error_rule : ErrorKind → Rule
stuffed_error_rule Bit = rule.Arbitration
stuffed_error_rule Stuff = rule.StuffPlaces
stuffed_error_rule Crc = rule.Arbitration
stuffed_error_rule Form = rule.Arbitration
stuffed_error_rule Ack = rule.Arbitration

-- the rule by which an error at the ACK delimiter starts a flag
abbrev pub ack_delimiter_rule : ErrorKind → Rule
ack_delimiter_rule Bit = rule.FixedForm
ack_delimiter_rule Stuff = rule.FixedForm
ack_delimiter_rule Crc = rule.RefusedCrcSequence
ack_delimiter_rule Form = rule.FixedForm
ack_delimiter_rule Ack = rule.FixedForm

-- the rule by which an error in this phase starts a flag. There is no error in a passive flag, after a flag, between
-- frames and during bus-off.
abbrev pub error_rule : PhaseKind → ErrorKind → Rule
error_rule kind.Joining error = rule.Joining
error_rule kind.Idle error = rule.StartOfFrame
error_rule kind.StuffedPart error = stuffed_error_rule error
error_rule kind.CrcDelimiter error = rule.FixedForm
error_rule kind.AckSlot error = rule.Acknowledgement
error_rule kind.AckDelimiter error = ack_delimiter_rule error
error_rule kind.EndOfFrame error = rule.FixedForm
error_rule kind.ErrorFlag error = rule.ErrorInAnOwnFlag
error_rule kind.PassiveFlag error = rule.ErrorFlags
error_rule kind.OverloadFlag error = rule.ErrorInAnOwnFlag
error_rule kind.AfterFlag error = rule.AfterAFlag
error_rule kind.Delimiter error = rule.Delimiter
error_rule kind.Intermission error = rule.Intermission
error_rule kind.Suspend error = rule.SuspendTransmission
error_rule kind.BusOff error = rule.BusOff

-- the rule by which the last level of a frame or of a delimiter starts an overload flag: that of a dominant last level,
-- or an overload request of the controller itself
abbrev pub last_level_rule : Rule → Level → Rule
last_level_rule last Dominant = last
last_level_rule last Recessive = rule.OwnOverloadFrames

-- the rule by which a level in this phase starts an overload flag; one starts only at the end of a frame, at the end of
-- a delimiter, and in intermission
abbrev pub overload_rule : PhaseKind → Level → Rule
overload_rule kind.EndOfFrame x = last_level_rule rule.DominantLastLevel x
overload_rule kind.Delimiter x = last_level_rule rule.Delimiter x
overload_rule kind.Intermission x = rule.Intermission
overload_rule kind.Joining x = rule.OverloadFlags
overload_rule kind.Idle x = rule.OverloadFlags
overload_rule kind.StuffedPart x = rule.OverloadFlags
overload_rule kind.CrcDelimiter x = rule.OverloadFlags
overload_rule kind.AckSlot x = rule.OverloadFlags
overload_rule kind.AckDelimiter x = rule.OverloadFlags
overload_rule kind.ErrorFlag x = rule.OverloadFlags
overload_rule kind.PassiveFlag x = rule.OverloadFlags
overload_rule kind.OverloadFlag x = rule.OverloadFlags
overload_rule kind.AfterFlag x = rule.OverloadFlags
overload_rule kind.Suspend x = rule.OverloadFlags
overload_rule kind.BusOff x = rule.OverloadFlags

-- the rule for the bit time after one with this event, in which the controller was in this phase and saw this level,
-- and after which it is in state `next`: for the first level of a flag, the rule that started it
abbrev pub rule_after : Option Event → PhaseKind → Level → MacState → Rule
rule_after None phase x next = phase_rule next.phase next.role
rule_after (Some (Sent f)) phase x next = phase_rule next.phase next.role
rule_after (Some (Received f)) phase x next = phase_rule next.phase next.role
rule_after (Some Lost) phase x next = phase_rule next.phase next.role
rule_after (Some (Error kind)) phase x next = error_rule phase kind
rule_after (Some Overload) phase x next = overload_rule phase x
rule_after (Some WentOff) phase x next = phase_rule next.phase next.role
rule_after (Some Recovered) phase x next = phase_rule next.phase next.role

-- the number of a rule
abbrev pub rule_code : Rule → ℕ
rule_code rule.Joining = 0
rule_code rule.StartOfFrame = 1
rule_code rule.KeptFrame = 2
rule_code rule.Intermission = 3
rule_code rule.SuspendTransmission = 4
rule_code rule.BusOff = 5
rule_code rule.Arbitration = 6
rule_code rule.StuffPlaces = 7
rule_code rule.FixedForm = 8
rule_code rule.Acknowledgement = 9
rule_code rule.RefusedCrcSequence = 10
rule_code rule.DominantLastLevel = 11
rule_code rule.ErrorFlags = 12
rule_code rule.ErrorInAnOwnFlag = 13
rule_code rule.AfterAFlag = 14
rule_code rule.Delimiter = 15
rule_code rule.OverloadFlags = 16
rule_code rule.OwnOverloadFrames = 17
