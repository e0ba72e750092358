-- A frame on the bus, at one controller: its phases, what it reports, and what it drives. (Bosch CAN 2.0 part B, sections 2, 3.2, 5 and
-- 8) Brackets name rules of docs/ACCESS.md.
use Rattle.std.specs.Prelude.{ℕ, zero, suc, ◌≡◌, ◌+◌, ◌-◌, ◌<◌, ◌≤◌, ◌==◌, nat_lt, Bool, true, false, if◌then◌else◌, List, [], ◌∷◌, ◌++◌, length, replicate, take, drop, Option, Some, None, unwrap_or, slice_index_or, ◌⊎◌}
use Rattle.std.specs.Cmp.Lexicographic.{pointwise}
use Rattle.can_frame.specs.declared.level.Level.{Level}
use Rattle.can_frame.specs.declared.level.Level.TheVariants.{Dominant, Recessive}
use Rattle.can_frame.specs.Levels.{same}
use Rattle.can_frame.specs.Arbitration.{arbitration_field, Before}
use Rattle.can_frame.specs.Parts.{Parts, IsFrame}
use Rattle.can_wire.specs.Wire.{stuffed_part, wire, driven}
use Rattle.can_wire.specs.Layout.{level_at}
use Rattle.can_code.specs.Front.{FrontParts, first_front, heard_levels}
use Rattle.can_fault.specs.declared.cause.Cause.TheVariants.{FrameSent, FrameReceived}
use Rattle.can_fault.specs.Counters.{ConfineParts, counted, is_bus_off, is_passive}
use Rattle.can_terms.specs.declared.event.Event.{Event}
use Rattle.can_terms.specs.declared.event.Event.TheVariants.{Sent, Received, Lost}
use Rattle.can_mac.specs.declared.phase.Reading.{Reading}
use Rattle.can_mac.specs.declared.phase.Role.{Role}
use Rattle.can_mac.specs.declared.phase.Role.TheVariants.{Receiver, Sender}
use Rattle.can_mac.specs.declared.phase.Phase.TheVariants.{Idle, StuffedPart, CrcDelimiter, AckSlot, AckDelimiter, EndOfFrame, PassiveFlag, AfterFlag, Delimiter, Intermission, Suspend}
use Rattle.can_mac.specs.declared.poised.Poised.{Poised}
use Rattle.can_mac.specs.declared.poised.Poised.TheVariants.{Not, ToReceive, ToSend}
use Rattle.can_mac.specs.State.{MacPhase, MacState, IsFrameOrNone}
use Rattle.can_mac.specs.Moves.{in_arbitration}
use Rattle.can_mac.specs.Machine.{mac_drives, mac_step}

-- Runs.

-- the state after the first o of these levels; in bit time t the frame `waits t` is pending
abbrev pub state_after : MacState → (ℕ → Option Parts) → List Level → ℕ → MacState
state_after m waits levels zero = m
state_after m waits levels (suc o) = (mac_step (state_after m waits levels o) (waits o) (level_at levels o)).0

-- the event of bit time o
abbrev pub told_at : MacState → (ℕ → Option Parts) → List Level → ℕ → Option Event
told_at m waits levels o = (mac_step (state_after m waits levels o) (waits o) (level_at levels o)).1

-- the level driven in bit time o
abbrev pub driven_at : MacState → (ℕ → Option Parts) → List Level → ℕ → Level
driven_at m waits levels o = mac_drives (state_after m waits levels o) (waits o)

-- A frame and its levels.

-- the levels of a frame on the bus and of its intermission
abbrev pub with_intermission : Parts → List Level
with_intermission f = wire f ++ replicate 3 Recessive

-- the levels that its transmitter drives: recessive in the ACK slot
abbrev pub driven_with_intermission : Parts → List Level
driven_with_intermission f = driven f ++ replicate 3 Recessive

-- the number of levels before the ACK slot
abbrev pub slot_place : Parts → ℕ
slot_place f = length (stuffed_part f) + 1

-- how many of the first o levels come after the stuffed part
abbrev pub behind_part : Parts → ℕ → ℕ
behind_part f o = o - length (stuffed_part f)

-- the front after the first o levels
abbrev pub heard_front : Parts → ℕ → FrontParts
heard_front f o = unwrap_or (heard_levels first_front (drop 1 (take o (stuffed_part f)))) first_front

-- what the stuffed part encodes, with a correct CRC sequence
abbrev pub own_reading : Parts → Reading
own_reading f = record { frame = f; agrees = true }

-- the phases after the stuffed part, level by level, to the last one of intermission
abbrev pub end_phases : Reading → List MacPhase
end_phases r =
    CrcDelimiter r ∷ AckSlot r ∷ AckDelimiter r
    ∷ EndOfFrame r 0 ∷ EndOfFrame r 1 ∷ EndOfFrame r 2 ∷ EndOfFrame r 3 ∷ EndOfFrame r 4 ∷ EndOfFrame r 5 ∷ EndOfFrame r 6
    ∷ Intermission 0 ∷ Intermission 1 ∷ Intermission 2 ∷ []

-- the phase after the first o levels
abbrev pub phase_at : Parts → ℕ → MacPhase
phase_at f o =
    if nat_lt o (length (stuffed_part f)) then StuffedPart (heard_front f o)
    else slice_index_or (end_phases (own_reading f)) (behind_part f o) Idle

-- [Arbitration] A controller with a pending frame is its transmitter as long as its levels equal those on the bus.
abbrev pub role_at : Parts → Option Parts → ℕ → Role
role_at f None o = Receiver
role_at f (Some g) o = if pointwise same (take o (with_intermission g)) (take o (with_intermission f)) then Sender g else Receiver

-- after intermission a controller is a receiver
abbrev pub role_after : Role → ℕ → Role
role_after role behind = if nat_lt behind 13 then role else Receiver

-- what is counted: by a receiver the reception, with the ACK slot; by the transmitter the transmission, with the end of frame
abbrev pub counters_after : Role → ConfineParts → ℕ → ConfineParts
counters_after Receiver c behind = if nat_lt behind 2 then c else counted FrameReceived c
counters_after (Sender f) c behind = if nat_lt behind 10 then c else counted FrameSent c

-- the state after the first o levels of f, for this pending frame, these requested overload frames and these counters at the start
abbrev pub frame_state : Parts → Option Parts → ℕ → ConfineParts → ℕ → MacState
frame_state f waiting pending c o = record {
  phase = phase_at f o;
  role = role_after (role_at f waiting o) (behind_part f o);
  overloads = record { pending = pending; used = 0 };
  counters = counters_after (role_at f waiting o) c (behind_part f o);
}

-- a transmitter that becomes a receiver has lost arbitration
abbrev pub loss : Role → Role → Option Event
loss Receiver new = None
loss (Sender g) Receiver = Some Lost
loss (Sender g) (Sender h) = None

-- [Frame validation] the event of a level after the stuffed part, with `behind` levels before it: a receiver reports the frame with the
-- last but one of the end of frame, the transmitter with the last one
abbrev pub end_event : Parts → Role → ℕ → Option Event
end_event f Receiver behind = if behind == 8 then Some (Received f) else None
end_event f (Sender g) behind = if behind == 9 then Some (Sent g) else None

-- the event of level o of f
abbrev pub frame_event : Parts → Option Parts → ℕ → Option Event
frame_event f waiting o =
    if nat_lt o (length (stuffed_part f)) then loss (role_at f waiting o) (role_at f waiting (o + 1))
    else end_event f (role_at f waiting o) (behind_part f o)

-- the level driven: by a transmitter its own, by a receiver the acknowledgment
abbrev pub role_drives : Parts → Role → ℕ → Level
role_drives f Receiver o = if o == slot_place f then Dominant else Recessive
role_drives f (Sender g) o = level_at (driven_with_intermission g) o

abbrev pub frame_drives : Parts → Option Parts → ℕ → Level
frame_drives f waiting o = role_drives f (role_at f waiting o) o

-- Who takes part.

-- error active: both counters are below 128
pub record IsActive (c : ConfineParts) : Type 0 where
  pub tec : c.tec < 128
  pub rec : c.rec < 128

-- the frame with which a controller starts at a start of frame: if it is idle, its pending frame; in suspend transmission none
abbrev pub Begins : MacPhase → Option Parts → Option Parts → Type 0
Begins phase waiting next = ((phase ≡ Idle) × (next ≡ waiting)) ⊎ ((place : ℕ) × ((phase ≡ Suspend place) × (next ≡ None)))

-- a controller with the pending frame `waiting` may take a whole frame in one step, starting with `next`: it is idle or in suspend
-- transmission, not bus off, and no overload frame is requested
pub record IsPoised (m : MacState) (waiting next : Option Parts) : Type 0 where
  pub begins : Begins m.phase waiting next
  pub on_bus : is_bus_off m.counters ≡ false
  pub unasked : m.overloads.pending ≡ 0

-- what a value of `Poised` says of a controller with this pending frame; `Not` says nothing
abbrev pub IsPoisedAs : Poised → MacState → Option Parts → Type 0
IsPoisedAs Not m waiting = Unit {0}
IsPoisedAs ToReceive m waiting = IsPoised m waiting None
IsPoisedAs (ToSend f) m waiting = IsPoised m waiting (Some f)

-- [Error flags], [Delimiter] the phases of an error frame in which a controller drives recessive while another one's frame begins
abbrev pub IsBehindError : MacPhase → Type 0
IsBehindError phase =
    ((last : Level) × ((run : ℕ) × (phase ≡ PassiveFlag last run false)))
    ⊎ (((first : Bool) × ((dominant : ℕ) × (phase ≡ AfterFlag first dominant))) ⊎ ((place : ℕ) × ((phase ≡ Delimiter place) × (place < 7))))

-- an error passive receiver in an error frame as another controller's frame begins: it detects errors in this frame again, and drives
-- recessive until the end of the intermission after it
pub record IsOutOfStep (m : MacState) : Type 0 where
  pub phase : IsBehindError m.phase
  pub role : m.role ≡ Receiver
  pub passive : is_passive m.counters ≡ true
  pub on_bus : is_bus_off m.counters ≡ false
  pub unasked : m.overloads.pending ≡ 0

-- [Suspend transmission] a controller after intermission, with these counters: idle, or the transmitter of f in suspend transmission
abbrev pub settled : Parts → Bool → ℕ → ConfineParts → MacState
settled f held_back pending c = record {
  phase = if held_back then Suspend 0 else Idle;
  role = if held_back then Sender f else Receiver;
  overloads = record { pending = pending; used = 0 };
  counters = c;
}

-- a controller after a frame that it has sent (`true`) or received, and its intermission
abbrev pub behind_frame : Parts → Bool → MacState → MacState
behind_frame f true m = settled f (is_passive (counted FrameSent m.counters)) m.overloads.pending (counted FrameSent m.counters)
behind_frame f false m = settled f false m.overloads.pending (counted FrameReceived m.counters)

-- a controller that receives a frame and is in this phase of it
abbrev pub receiving_in : MacPhase → MacState → MacState
receiving_in phase m = record { phase = phase; role = Receiver; overloads = record { pending = m.overloads.pending; used = 0 }; counters = m.counters }

-- the pending frame is f, or has lower priority, or there is none
abbrev pub GoesBehind : Parts → Option Parts → Type 0
GoesBehind f None = Unit {0}
GoesBehind f (Some g) = (g ≡ f) ⊎ Before (arbitration_field f) (arbitration_field g)

-- a controller that is idle and error active as f begins, whose pending frame is f, or has lower priority, or is absent
pub record StartsWith (f : Parts) (m : MacState) (waiting : Option Parts) : Type 0 where
  pub frame : IsFrame f
  pub idle : m.phase ≡ Idle
  pub active : IsActive m.counters
  pub kept : IsFrameOrNone waiting
  pub behind : GoesBehind f waiting

-- at least one level of f has been sampled, at most f and its intermission; from the end of f on no overload frame is requested
pub record AreHeard (f : Parts) (m : MacState) (o : ℕ) : Type 0 where
  pub some : 0 < o
  pub within : o ≤ length (with_intermission f)
  pub no_wish : length (wire f) ≤ o → m.overloads.pending ≡ 0

-- [Arbitration] f and g differ first at this place: there, in the arbitration field of g, f is dominant and g recessive
pub record PartsAt (f g : Parts) (place : ℕ) : Type 0 where
  pub alike : take place (with_intermission g) ≡ take place (with_intermission f)
  pub low : level_at (with_intermission f) place ≡ Dominant
  pub high : level_at (with_intermission g) place ≡ Recessive
  pub within : place < length (stuffed_part f)
  pub within_sent : place < length (stuffed_part g)
  pub arbitration : in_arbitration g (heard_front f place).unstuffed ≡ true
