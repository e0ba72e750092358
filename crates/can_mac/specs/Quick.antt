-- Which levels the fast paths take: the controller reports no event, and only its phase changes, or during bus off its count of recessive
-- levels. The contracts promise this; the definitions here list the levels.
use Rattle.std.specs.Prelude.{◌==◌, nat_lt, Bool, true, false, not, if◌then◌else◌, length, Option, Some, None}
use Rattle.can_frame.specs.declared.level.Level.{Level}
use Rattle.can_frame.specs.declared.level.Level.TheVariants.{Dominant, Recessive}
use Rattle.can_frame.specs.Levels.{same}
use Rattle.can_frame.specs.Parts.{Parts}
use Rattle.can_code.specs.Front.{FrontParts}
use Rattle.can_code.specs.Sending.{sent_level}
use Rattle.can_mac.specs.declared.phase.Role.{Role}
use Rattle.can_mac.specs.declared.phase.Role.TheVariants.{Receiver, Sender}
use Rattle.can_mac.specs.declared.phase.Phase.TheVariants.{Joining, Idle, StuffedPart, CrcDelimiter, AckSlot, AckDelimiter, EndOfFrame, ErrorFlag, PassiveFlag, OverloadFlag, AfterFlag, Delimiter, Intermission, Suspend, BusOff}
use Rattle.can_mac.specs.State.{MacPhase, MacState}
use Rattle.can_mac.specs.Moves.{refuses}

-- Silent levels: the controller drives recessive next, with any pending frame.

-- a recessive level of a field of fixed length that is neither its last level nor validates a frame; a level of a passive error flag,
-- except a dominant one that is counted; the recessive level after a flag; while joining, any level except the eleventh recessive one in
-- a row
abbrev pub counts_on : MacPhase → Level → Bool
counts_on (Joining row) Dominant = true
counts_on (Joining row) Recessive = nat_lt row 10
counts_on Idle x = false
counts_on (StuffedPart front) x = false
counts_on (CrcDelimiter r) x = false
counts_on (AckSlot r) x = false
counts_on (AckDelimiter r) x = false
counts_on (EndOfFrame r place) Dominant = false
counts_on (EndOfFrame r place) Recessive = nat_lt place 5
counts_on (ErrorFlag place) x = false
counts_on (PassiveFlag last run unacknowledged) Dominant = not unacknowledged
counts_on (PassiveFlag last run unacknowledged) Recessive = true
counts_on (OverloadFlag place) x = false
counts_on (AfterFlag first dominant) Dominant = false
counts_on (AfterFlag first dominant) Recessive = true
counts_on (Delimiter place) Dominant = false
counts_on (Delimiter place) Recessive = nat_lt place 7
counts_on (Intermission place) Dominant = false
counts_on (Intermission place) Recessive = nat_lt place 2
counts_on (Suspend place) Dominant = false
counts_on (Suspend place) Recessive = nat_lt place 7
counts_on BusOff x = false

-- the level is the transmitter's own; at a receiver it is any level
abbrev pub is_as_sent : Role → FrontParts → Level → Bool
is_as_sent Receiver front x = true
is_as_sent (Sender f) front x = same x (sent_level f (length front.unstuffed))

-- a level of the stuffed part that is no stuff error, and at a transmitter the level that it sends
abbrev pub is_heard : Role → FrontParts → Level → Bool
is_heard role front x = if front.run == 5 then not (same x front.last) else is_as_sent role front x

-- a level of the stuffed part at a receiver that is no stuff error
abbrev pub is_received : Role → FrontParts → Level → Bool
is_received Receiver front x = is_heard Receiver front x
is_received (Sender f) front x = false

-- any level during bus off, unless only one occurrence of eleven recessive levels is missing
abbrev pub stays_off : MacState → Bool
stays_off m = elim m.phase [ BusOff ↦ nat_lt m.counters.occurrences 127 | _ ↦ false ]

abbrev pub is_silent_level : MacState → Level → Bool
is_silent_level m x = elim m.phase [ StuffedPart front ↦ is_received m.role front x | BusOff ↦ nat_lt m.counters.occurrences 127 | _ ↦ counts_on m.phase x ]

-- Quiet levels: the controller may drive dominant next, or needs its pending frame.

-- idle and recessive without a pending frame; the delimiters of a frame; a level of a flag that is not its last
abbrev pub is_quiet_level : Role → MacPhase → Option Parts → Level → Bool
is_quiet_level role Idle None Recessive = true
is_quiet_level role Idle None Dominant = false
is_quiet_level role Idle (Some f) x = false
is_quiet_level role (StuffedPart front) waiting x = is_heard role front x
is_quiet_level role (CrcDelimiter r) waiting Recessive = true
is_quiet_level role (CrcDelimiter r) waiting Dominant = false
is_quiet_level role (AckDelimiter r) waiting Recessive = not (refuses role r)
is_quiet_level role (AckDelimiter r) waiting Dominant = false
is_quiet_level role (ErrorFlag place) waiting Dominant = nat_lt place 5
is_quiet_level role (ErrorFlag place) waiting Recessive = false
is_quiet_level role (OverloadFlag place) waiting Dominant = nat_lt place 5
is_quiet_level role (OverloadFlag place) waiting Recessive = false
is_quiet_level role (Joining row) waiting x = counts_on (Joining row) x
is_quiet_level role (AckSlot r) waiting x = false
is_quiet_level role (EndOfFrame r place) waiting x = counts_on (EndOfFrame r place) x
is_quiet_level role (PassiveFlag last run unacknowledged) waiting x = counts_on (PassiveFlag last run unacknowledged) x
is_quiet_level role (AfterFlag first dominant) waiting x = counts_on (AfterFlag first dominant) x
is_quiet_level role (Delimiter place) waiting x = counts_on (Delimiter place) x
is_quiet_level role (Intermission place) waiting x = counts_on (Intermission place) x
is_quiet_level role (Suspend place) waiting x = counts_on (Suspend place) x
is_quiet_level role BusOff waiting x = false
