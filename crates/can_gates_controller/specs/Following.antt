-- A bit time of the frame on the bus: what has been received of it, whose frame it is, and the event.
use Rattle.std.specs.Prelude.{ℕ, ◌≡◌, ◌<◌, ◌==◌, Bool, true, false, if◌then◌else◌, Option, Some, None, length}
use Rattle.can_frame.specs.declared.level.Level.{Level}
use Rattle.can_frame.specs.Parts.{Parts}
use Rattle.can_code.specs.Front.{FrontParts, first_front, heard_level}
use Rattle.can_code.specs.Sending.{sent_level}
use Rattle.can_terms.specs.declared.event.Event.{Event}
use Rattle.can_terms.specs.declared.event.Event.TheVariants.{Sent, Received}
use Rattle.can_mac.specs.declared.phase.Reading.{Reading}
use Rattle.can_mac.specs.declared.phase.Role.{Role}
use Rattle.can_mac.specs.declared.phase.Role.TheVariants.{Receiver, Sender}
use Rattle.can_mac.specs.declared.phase.Phase.TheVariants.{StuffedPart, CrcDelimiter, AckSlot, AckDelimiter, EndOfFrame}
use Rattle.can_mac.specs.State.{MacPhase}
use Rattle.can_mac.specs.Moves.{reading_of, ends_part}
use Rattle.can_gates.specs.Circuit.{value, value_at}
use Rattle.can_gates.specs.Words.{number}
use Rattle.can_gates_mac.specs.Nibbles.{nibble}
use Rattle.can_gates_mac.specs.Numbers.{reading_in}
use Rattle.can_gates_controller.specs.declared.heard.Heard.{Heard}
use Rattle.can_gates_controller.specs.declared.following.Within.{Within}
use Rattle.can_gates_controller.specs.Holding.{is_in_frame}

-- what has been received of a frame after a level, if the stuffed part can follow
abbrev pub next_front : MacPhase → Level → Option FrontParts
next_front (StuffedPart front) x = Some (heard_level front x)
next_front (CrcDelimiter r) x = None
next_front (AckSlot r) x = None
next_front (AckDelimiter r) x = None
next_front (EndOfFrame r place) x = None
next_front p x = Some first_front

-- the reading of the stuffed part after a level
abbrev pub next_reading : MacPhase → Level → Option Reading
next_reading (StuffedPart front) x = Some (reading_of (heard_level front x).unstuffed)
next_reading p x = reading_in p

-- whose frame it is: within a frame the transmitter's, otherwise the pending one
abbrev pub Owns : Bool → Role → Option Parts → Parts → Type 0
Owns true role waiting f = role ≡ Sender f
Owns false role waiting f = waiting ≡ Some f

-- if the controller is the transmitter after a bit time, this is its frame
abbrev pub KeepsOwn : MacPhase → Role → Option Parts → Role → Type 0
KeepsOwn p role waiting new = (f : Parts) → new ≡ Sender f → Owns (is_in_frame p) role waiting f

-- a controller that stays transmitter has sampled the level that it sent, unless a stuff bit was due
abbrev pub SeesOwn : MacPhase → Level → Role → Type 0
SeesOwn (StuffedPart front) x new = (f : Parts) → new ≡ Sender f → (front.run == 5) ≡ false → x ≡ sent_level f (length front.unstuffed)
SeesOwn p x new = Unit {0}

-- the stuffed part has ended with this level
abbrev pub Ended : MacPhase → Level → Type 0
Ended (StuffedPart front) x = ends_part (heard_level front x) ≡ true
Ended p x = Unit {0}

-- a phase that follows another one, with the role in it
abbrev pub IsPhaseBehind : MacPhase → Role → Option Parts → Level → MacPhase → Role → Type 0
IsPhaseBehind p role waiting x (StuffedPart front) new = (next_front p x ≡ Some front) × (KeepsOwn p role waiting new × SeesOwn p x new)
IsPhaseBehind p role waiting x (CrcDelimiter r) new = (next_reading p x ≡ Some r) × (KeepsOwn p role waiting new × Ended p x)
IsPhaseBehind p role waiting x (AckSlot r) new = (next_reading p x ≡ Some r) × (KeepsOwn p role waiting new × Ended p x)
IsPhaseBehind p role waiting x (AckDelimiter r) new = (next_reading p x ≡ Some r) × (KeepsOwn p role waiting new × Ended p x)
IsPhaseBehind p role waiting x (EndOfFrame r place) new = (next_reading p x ≡ Some r) × (KeepsOwn p role waiting new × Ended p x)
IsPhaseBehind p role waiting x q new = Unit {0}

-- the frame of an event is that of the transmitter, or the one that a receiver has received
abbrev pub IsEventIn : MacPhase → Role → Option Event → Type 0
IsEventIn p role (Some (Sent f)) = (is_in_frame p ≡ true) × (role ≡ Sender f)
IsEventIn p role (Some (Received f)) = (role ≡ Receiver) × ((r : Reading) × ((reading_in p ≡ Some r) × (f ≡ r.frame)))
IsEventIn p role e = Unit {0}

-- the phase, the role and the event that follow a phase
pub record Follows (p : MacPhase) (role : Role) (waiting : Option Parts) (x : Level) (q : MacPhase) (new : Role)
    (e : Option Event) : Type 0 where
  pub next : IsPhaseBehind p role waiting x q new
  pub told : IsEventIn p role e

-- whether it is the stuffed part of a frame
abbrev pub is_part : MacPhase → Bool
is_part (StuffedPart front) = true
is_part p = false

-- whether it is between the stuffed part and the end of the frame
abbrev pub is_behind_part : MacPhase → Bool
is_behind_part (CrcDelimiter r) = true
is_behind_part (AckSlot r) = true
is_behind_part (AckDelimiter r) = true
is_behind_part (EndOfFrame r place) = true
is_behind_part p = false

-- the literals show in which part of a frame this phase is, if in any
pub record ShowsWithin (v : ℕ → Bool) (k : Within) (p : MacPhase) : Type 0 where
  pub part : value v k.part ≡ is_part p
  pub end : value v k.end ≡ is_behind_part p

-- the first registers if the test is true, otherwise the second
pub record IsEither (v : ℕ → Bool) (k : Heard) (test : Bool) (a b : Heard) : Type 0 where
  pub levels : (p : ℕ) → p < 103 → value_at v k.levels p ≡ (if test then value_at v a.levels p else value_at v b.levels p)
  pub count : number v k.count ≡ (if test then number v a.count else number v b.count)
  pub last : value v k.last ≡ (if test then value v a.last else value v b.last)
  pub run : nibble v k.run ≡ (if test then nibble v a.run else nibble v b.run)
  pub check : (p : ℕ) → p < 15 → value_at v k.check p ≡ (if test then value_at v a.check p else value_at v b.check p)
