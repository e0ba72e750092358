-- The invariant of medium access is a proposition, so that a struct may keep it as a ghost field.
use Rattle.std.proofs.Props.{props}
use Rattle.can_mac.specs.declared.phase.Phase.TheVariants.{Joining, Idle, StuffedPart, CrcDelimiter, AckSlot, AckDelimiter, EndOfFrame, ErrorFlag, PassiveFlag, OverloadFlag, AfterFlag, Delimiter, Intermission, Suspend, BusOff}
use Rattle.can_mac.specs.declared.phase.Role.{Role}
use Rattle.can_mac.specs.declared.phase.Role.TheVariants.{Receiver, Sender}
use Rattle.can_mac.specs.State.{MacPhase, MacState, IsMac, IsPhase, IsRole}

pub IsPhase-prop : (phase : MacPhase) → IsProp (IsPhase phase)
IsPhase-prop (Joining row) = hlevel props
IsPhase-prop Idle = hlevel props
IsPhase-prop (StuffedPart front) = hlevel props
IsPhase-prop (CrcDelimiter r) = hlevel props
IsPhase-prop (AckSlot r) = hlevel props
IsPhase-prop (AckDelimiter r) = hlevel props
IsPhase-prop (EndOfFrame r place) = hlevel props
IsPhase-prop (ErrorFlag place) = hlevel props
IsPhase-prop (PassiveFlag last run unacknowledged) = hlevel props
IsPhase-prop (OverloadFlag place) = hlevel props
IsPhase-prop (AfterFlag first dominant) = hlevel props
IsPhase-prop (Delimiter place) = hlevel props
IsPhase-prop (Intermission place) = hlevel props
IsPhase-prop (Suspend place) = hlevel props
IsPhase-prop BusOff = hlevel props

pub IsRole-prop : (role : Role) → IsProp (IsRole role)
IsRole-prop Receiver = hlevel props
IsRole-prop (Sender f) = hlevel props

pub IsMac-prop : (m : MacState) → IsProp (IsMac m)
IsMac-prop m = hlevel (IsPhase-prop, IsRole-prop, props)
