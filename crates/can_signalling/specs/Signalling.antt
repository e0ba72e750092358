-- How one controller signals a wrong bit. (Bosch CAN 2.0 part B, sections 3.2.3, 7.1 and 7.2)
use Rattle.std.specs.Prelude.{ℕ, suc, ◌≡◌, ◌+◌, ◌<◌, ◌≤◌, ◌⊎◌, ◌==◌, nat_lt, if◌then◌else◌, Option, Some, None, false, List, [], ◌∷◌, length}
use Rattle.can_frame.specs.declared.level.Level.{Level}
use Rattle.can_frame.specs.declared.level.Level.TheVariants.{Dominant, Recessive}
use Rattle.can_frame.specs.Parts.{Parts}
use Rattle.can_wire.specs.Wire.{stuffed_part}
use Rattle.can_wire.specs.Layout.{level_at}
use Rattle.can_code.specs.Front.{FrontParts}
use Rattle.can_fault.specs.declared.cause.Cause.TheVariants.{SenderError}
use Rattle.can_fault.specs.Counters.{counted}
use Rattle.can_terms.specs.declared.event.Event.TheVariants.{Error}
use Rattle.can_terms.specs.declared.event.ErrorKind.{ErrorKind}
use Rattle.can_terms.specs.declared.event.ErrorKind.TheVariants.{Bit, Stuff, Form, Crc, Ack}
use Rattle.can_terms.specs.declared.phase_kind.PhaseKind.TheVariants as kind
use Rattle.can_mac.specs.declared.phase.Reading.{Reading}
use Rattle.can_mac.specs.declared.phase.Role.TheVariants.{Sender}
use Rattle.can_mac.specs.declared.phase.Phase.TheVariants.{Idle, CrcDelimiter, AckDelimiter, EndOfFrame, ErrorFlag}
use Rattle.can_mac.specs.State.{MacPhase, MacState, kind_of}
use Rattle.can_mac.specs.Moves.{in_arbitration}
use Rattle.can_mac.specs.Machine.{mac_drives, mac_step}
use Rattle.can_mac.specs.Frames.{IsActive, state_after, told_at, driven_at, with_intermission, heard_front, behind_part}

-- in bit time t it reports this error, and no event before; an active error flag starts
pub record SignalsFirst (m : MacState) (waits : ℕ → Option Parts) (levels : List Level) (t : ℕ) (kind : ErrorKind) : Type 0 where
  pub silent : (o : ℕ) → o < t → told_at m waits levels o ≡ None
  pub told : told_at m waits levels t ≡ Some (Error kind)
  pub flag : (state_after m waits levels (suc t)).phase ≡ ErrorFlag 0

-- A transmitter.

-- the error active transmitter of f
pub record IsTransmitter (f : Parts) (m : MacState) : Type 0 where
  pub role : m.role ≡ Sender f
  pub active : IsActive m.counters

-- a delimiter of a frame, or its end of frame
pub data IsFixedForm : MacPhase → Type 0 where
  crc_delimiter : (r : Reading) → IsFixedForm (CrcDelimiter r)
  ack_delimiter : (r : Reading) → IsFixedForm (AckDelimiter r)
  end_of_frame : (r : Reading) (place : ℕ) → IsFixedForm (EndOfFrame r place)

-- the error if the level after this front is inverted: after five equal levels it is a stuff bit
abbrev pub own_bit_error : FrontParts → ErrorKind
own_bit_error front = if front.run == 5 then Stuff else Bit

-- the transmitter's next state: an active error flag starts, and the error is counted
abbrev pub flagging : MacState → MacState
flagging m = record m { phase = ErrorFlag 0; counters = counted SenderError m.counters }

-- the error of the transmitter of f if level o is inverted
abbrev pub sender_error : Parts → ℕ → ErrorKind
sender_error f o =
    if nat_lt o (length (stuffed_part f)) then own_bit_error (heard_front f o)
    else if behind_part f o == 1 then Ack
    else Bit

-- level o of f is after the RTR bit, or dominant
abbrev pub IsOwnBit : Parts → ℕ → Type 0
IsOwnBit f o =
    (o < length (stuffed_part f) → in_arbitration f (heard_front f o).unstuffed ≡ false)
    ⊎ (level_at (with_intermission f) o ≡ Dominant)

-- A receiver.

-- the error if a level after the stuffed part is inverted, with `behind` levels of these before it: in the ACK slot, which
-- it drives itself, a bit error
abbrev pub fixed_form_error : ℕ → ErrorKind
fixed_form_error behind = if behind == 1 then Bit else Form

-- a dominant level overrides a recessive one
abbrev pub over : Level → Level → Level
over Dominant x = Dominant
over Recessive x = x

-- the levels that a controller samples if others leave these on the bus: dominant also wherever it drives dominant
abbrev pub sampled : MacState → (ℕ → Option Parts) → List Level → List Level
sampled m waits [] = []
sampled m waits (x ∷ others) =
    over x (mac_drives m (waits 0))
    ∷ sampled (mac_step m (waits 0) (over x (mac_drives m (waits 0)))).0 (λ t. waits (suc t)) others

-- error active, idle, and without a pending frame as a frame begins
pub record IsReady (m : MacState) (waits : ℕ → Option Parts) : Type 0 where
  pub idle : m.phase ≡ Idle
  pub active : IsActive m.counters
  pub none : waits 0 ≡ None

-- A form error comes by the ACK slot of the frame, a stuff error by the fifth bit of its end of frame, a CRC error by the
-- sixth. No other error comes. n is the place of the CRC delimiter.
pub data ComesBy (n t : ℕ) : ErrorKind → Type 0 where
  form : t ≤ n + 1 → ComesBy n t Form
  stuff : t ≤ n + 7 → ComesBy n t Stuff
  crc : t ≤ n + 8 → ComesBy n t Crc

-- What a controller does while others leave these levels on the bus.
module _ (m : MacState) (waits : ℕ → Option Parts) (others : List Level) where
  abbrev levels : List Level
  levels = sampled m waits others

  -- it drives recessive in this bit time, or this is its ACK slot
  abbrev pub DrivesInSlot : (slot t : ℕ) → Type 0
  DrivesInSlot slot t =
      (driven_at m waits levels t ≡ Recessive)
      ⊎ ((t ≡ slot) × (kind_of (state_after m waits levels t) ≡ kind.AckSlot))

  -- Before bit time t it reports no event, so it has accepted no frame. It drives dominant at most in its ACK slot.
  pub record IsQuietBefore (slot t : ℕ) : Type 0 where
    pub silent : (o : ℕ) → o < t → told_at m waits levels o ≡ None
    pub drives : (o : ℕ) → o < t → DrivesInSlot slot o

  -- in bit time t it reports an error
  pub record ReportsError (n t : ℕ) : Type 0 where
    pub kind : ErrorKind
    pub first : SignalsFirst m waits levels t kind
    pub by : ComesBy n t kind

  -- In bit time t it drives its ACK slot dominant, in one of the first five bits of the frame's end of frame. There the
  -- others leave the level recessive, so to them this is a form error, or a bit error.
  pub record BreaksEnd (n t : ℕ) : Type 0 where
    pub in_slot : kind_of (state_after m waits levels t) ≡ kind.AckSlot
    pub drives : driven_at m waits levels t ≡ Dominant
    pub recessive : level_at others t ≡ Recessive
    pub least : n + 3 ≤ t
    pub most : t ≤ n + 7

  -- in bit time t one of the two, for the first time
  pub record IsSignalledIn (n t : ℕ) : Type 0 where
    pub slot : ℕ
    pub before : IsQuietBefore slot t
    pub signals : ReportsError n t ⊎ BreaksEnd n t
