-- A controller in a circuit's registers, and one bit time of it.
use Rattle.std.specs.Prelude.{ℕ, ◌≡◌, Bool, false, if◌then◌else◌, Option}
use Rattle.can_frame.specs.declared.level.Level.{Level}
use Rattle.can_frame.specs.Levels.{is_recessive}
use Rattle.can_frame.specs.Parts.{Parts}
use Rattle.can_fault.specs.Counters.{ConfineParts}
use Rattle.can_terms.specs.declared.event.Event.{Event}
use Rattle.can_mac.specs.State.{MacState, is_off_phase}
use Rattle.can_gates.specs.Circuit.{value}
use Rattle.can_gates.specs.Words.{number}
use Rattle.can_gates_mac.specs.declared.wires.Inputs.{Inputs}
use Rattle.can_gates_mac.specs.declared.registers.Counters.{Counters}
use Rattle.can_gates_mac.specs.declared.registers.Controller.{Controller}
use Rattle.can_gates_mac.specs.Nibbles.{nibble}
use Rattle.can_terms.specs.Codes.{event_code}
use Rattle.can_gates_mac.specs.Numbers.{Numbers, phase_number, place_number, last_recessive, unacknowledged_of, is_first, is_sender, is_waiting}
use Rattle.can_gates_mac.specs.Shown.{shown}
use Rattle.can_gates_mac.specs.Inputs.{TellsReading, IsPartIn}

-- the place in a phase; during bus-off the number of recessive levels in a row
abbrev pub place_or_row : MacState → ℕ
place_or_row m = if is_off_phase m.phase then m.counters.row else place_number m.phase

-- the numbers of a controller, and of its event
abbrev pub state_numbers : MacState → Option Event → Numbers
state_numbers m e = record {
  phase = phase_number m.phase;
  place = place_or_row m;
  last = last_recessive m.phase;
  unacknowledged = unacknowledged_of m.phase;
  first = is_first m.phase;
  sender = is_sender m.role;
  pending = m.overloads.pending;
  used = m.overloads.used;
  cause = 0;
  event = event_code e;
}

-- the registers hold these counters
pub record HoldsCounters (v : ℕ → Bool) (k : Counters) (c : ConfineParts) : Type 0 where
  pub tec : number v k.tec ≡ c.tec
  pub rec : number v k.rec ≡ c.rec
  pub occurrences : number v k.occurrences ≡ c.occurrences

-- the registers hold this controller, without its frames and without what it has received of the frame on the bus
pub record Holds (v : ℕ → Bool) (k : Controller) (m : MacState) : Type 0 where
  pub phase : nibble v k.wires.phase ≡ phase_number m.phase
  pub place : nibble v k.wires.place ≡ place_or_row m
  pub last : value v k.wires.last ≡ last_recessive m.phase
  pub unacknowledged : value v k.wires.unacknowledged ≡ unacknowledged_of m.phase
  pub first : value v k.wires.first ≡ is_first m.phase
  pub sender : value v k.wires.sender ≡ is_sender m.role
  pub pending : nibble v k.wires.pending ≡ m.overloads.pending
  pub used : nibble v k.wires.used ≡ m.overloads.used
  pub counters : HoldsCounters v k.counters m.counters

-- the inputs are those of this controller, with this pending frame and this sampled level
pub record IsInput (v : ℕ → Bool) (k : Inputs) (m : MacState) (waiting : Option Parts) (x : Level) : Type 0 where
  pub waits : value v k.waits ≡ is_waiting waiting
  pub seen : value v k.seen ≡ is_recessive x
  pub agrees : TellsReading m.phase (value v k.agrees)
  pub part : IsPartIn v k.part m.role m.phase x

-- these are the next state and the event, whatever the cause
pub record IsStep (v : ℕ → Bool) (k : Controller) (step : MacState × Option Event) : Type 0 where
  pub state : record (shown v k.wires) { cause = 0 } ≡ state_numbers step.0 step.1
  pub counters : HoldsCounters v k.counters step.0.counters

-- all registers 0, except the phase
abbrev pub reset_numbers : ℕ → Numbers
reset_numbers phase =
    record {
      phase = phase;
      place = 0;
      last = false;
      unacknowledged = false;
      first = false;
      sender = false;
      pending = 0;
      used = 0;
      cause = 0;
      event = 0;
    }
