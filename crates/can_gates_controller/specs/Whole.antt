-- A controller with the frame on the bus in a circuit's registers, and one bit time of it.
use Rattle.std.specs.Prelude.{ℕ, ◌≡◌, Bool, true, List, Option, Some, length, take}
use Rattle.can_frame.specs.declared.level.Level.{Level}
use Rattle.can_frame.specs.declared.level.Level.TheVariants.{Recessive}
use Rattle.can_frame.specs.Levels.{is_recessive}
use Rattle.can_frame.specs.Parts.{Parts}
use Rattle.can_wire.specs.Layout.{frame_of}
use Rattle.can_wire.specs.Wire.{head, unstuffed}
use Rattle.can_code.specs.Front.{FrontParts}
use Rattle.can_terms.specs.declared.event.Event.{Event}
use Rattle.can_terms.specs.declared.event.Event.TheVariants.{Sent, Received}
use Rattle.can_mac.specs.declared.phase.Role.{Role}
use Rattle.can_mac.specs.declared.phase.Role.TheVariants.{Receiver, Sender}
use Rattle.can_mac.specs.declared.phase.Phase.TheVariants.{Joining, Idle, StuffedPart, CrcDelimiter, AckSlot, AckDelimiter, EndOfFrame, PassiveFlag, AfterFlag, Suspend, BusOff}
use Rattle.can_mac.specs.State.{MacPhase, MacState, IsMac, IsFrameOrNone}
use Rattle.can_mac.specs.Machine.{mac_step, mac_drives}
use Rattle.can_gates.specs.declared.literal.Literal.{Literal}
use Rattle.can_gates.specs.Circuit.{value}
use Rattle.can_gates_mac.specs.Nibbles.{nibble}
use Rattle.can_terms.specs.Codes.{event_code}
use Rattle.can_gates_mac.specs.Numbers.{is_sender, is_waiting}
use Rattle.can_gates_mac.specs.Stepping.{Holds}
use Rattle.can_gates_controller.specs.declared.registers.Registers.{Registers}
use Rattle.can_gates_controller.specs.declared.registers.Offered.{Offered}
use Rattle.can_gates_controller.specs.declared.registers.BitTime.{BitTime}
use Rattle.can_gates_controller.specs.Fronts.{HoldsLevels}
use Rattle.can_gates_controller.specs.Holding.{is_in_frame, HoldsHeard}

-- within a frame the transmitter's registers hold its bits to the end of the data field, and what the transmitter has
-- received is what it sent
pub record HoldsOwn (v : ℕ → Bool) (own : List Literal) (p : MacPhase) (role : Role) : Type 0 where
  pub levels : (f : Parts) → is_in_frame p ≡ true → role ≡ Sender f → HoldsLevels v own (head f)
  pub sent : (f : Parts) (front : FrontParts) → p ≡ StuffedPart front → role ≡ Sender f
      → front.unstuffed ≡ take (length front.unstuffed) (unstuffed f)

-- an invariant of each run, besides IsMac, of the phase, the role, and how many own overload frames were sent since the
-- last frame. A controller that is idle, joining or bus-off is no transmitter; one that suspends transmission is one,
-- and so is one that waits for its missing acknowledgment to count. In a frame no own overload frame counts yet. A
-- passive error flag begins as if a recessive level had come before it, and no dominant level comes before the first
-- level after an error flag
abbrev pub IsSettled : MacPhase → Role → ℕ → Type 0
IsSettled Idle role used = role ≡ Receiver
IsSettled (Joining row) role used = role ≡ Receiver
IsSettled (StuffedPart front) role used = used ≡ 0
IsSettled (CrcDelimiter r) role used = used ≡ 0
IsSettled (AckSlot r) role used = used ≡ 0
IsSettled (AckDelimiter r) role used = used ≡ 0
IsSettled (EndOfFrame r place) role used = used ≡ 0
IsSettled (PassiveFlag last run unacknowledged) role used = (unacknowledged ≡ true → is_sender role ≡ true) × (run ≡ 0 → last ≡ Recessive)
IsSettled (AfterFlag first dominant) role used = first ≡ true → dominant ≡ 0
IsSettled (Suspend place) role used = is_sender role ≡ true
IsSettled BusOff role used = role ≡ Receiver
IsSettled p role used = Unit {0}

-- the registers hold this controller, and the frame on the bus
pub record HoldsAll (v : ℕ → Bool) (k : Registers) (m : MacState) : Type 0 where
  pub is : IsMac m
  pub settled : IsSettled m.phase m.role m.overloads.used
  pub controller : Holds v k.controller m
  pub heard : HoldsHeard v k.heard m.phase
  pub own : HoldsOwn v k.own m.phase m.role

-- this is the pending frame, if any
pub record Offers (v : ℕ → Bool) (k : Offered) (waiting : Option Parts) : Type 0 where
  pub frame : IsFrameOrNone waiting
  pub waits : value v k.waits ≡ is_waiting waiting
  pub levels : (f : Parts) → waiting ≡ Some f → HoldsLevels v k.levels (head f)

-- the frame of the event is the one in the registers: the transmitter's, or the received one
pub record TellsFrame (v : ℕ → Bool) (k : Registers) (told : Option Event) : Type 0 where
  pub sent : (f : Parts) → told ≡ Some (Sent f) → HoldsLevels v k.own (head f)
  pub received : (f : Parts) → told ≡ Some (Received f) → (u : List Level) × ((f ≡ frame_of u) × HoldsLevels v k.heard.levels u)

-- the bit time of a controller in these registers, with this pending frame and this sampled level
pub record IsBitTime (v : ℕ → Bool) (k : BitTime) (held : Registers) (m : MacState) (waiting : Option Parts) (x : Level) : Type 0 where
  pub next : HoldsAll v k.next (mac_step m waiting x).0
  pub drives : value v k.recessive ≡ is_recessive (mac_drives m waiting)
  pub event : nibble v k.next.controller.wires.event ≡ event_code (mac_step m waiting x).1
  pub frame : TellsFrame v held (mac_step m waiting x).1
