-- Definitions for test vectors: levels as text, their events, and the state that they lead to.
use Rattle.std.proofs.Common.{◌≡◌, ℕ, ◌+◌, ◌-◌, List, [], ◌∷◌, map, replicate, Option, Some, None, false, true}
use Rattle.std.specs.Prelude.{codes}
use Rattle.can_frame.specs.declared.level.Level.{Level}
use Rattle.can_frame.specs.declared.level.Level.TheVariants.{Recessive}
use Rattle.can_frame.specs.Levels.{level_of}
use Rattle.can_frame.specs.Parts.{Parts}
use Rattle.can_terms.specs.declared.event.Event.{Event}
use Rattle.can_mac.specs.declared.phase.Reading.{Reading}
use Rattle.can_mac.specs.declared.phase.Role.TheVariants.{Sender}
use Rattle.can_mac.specs.State.{MacPhase, MacState, idle}
use Rattle.can_mac.specs.Machine.{mac_step}

-- the levels of a text of `0` and `1`
abbrev pub levels_of : List ℕ → List Level
levels_of text = map (λ c. level_of (c - 48)) text

abbrev pub silence : ℕ → List Level
silence n = replicate n Recessive

-- the events, with their times
pub record Told : Type 0 where
  pub time : ℕ
  pub event : Event

abbrev pub at : ℕ → Event → Told
at time event = record { time = time; event = event }

abbrev pub with_told : ℕ → Option Event → List Told → List Told
with_told time None told = told
with_told time (Some event) told = at time event ∷ told

-- the events of a run that begins at this time, with this pending frame
abbrev pub events : ℕ → Option Parts → MacState → List Level → List Told
events time waiting m [] = []
events time waiting m (x ∷ levels) = with_told time (mac_step m waiting x).1 (events (time + 1) waiting (mac_step m waiting x).0 levels)

-- the state after levels
abbrev pub run : Option Parts → MacState → List Level → MacState
run waiting m [] = m
run waiting m (x ∷ levels) = run waiting (mac_step m waiting x).0 levels

-- A test vector: with this pending frame, these levels, given as text, cause these events from time 0 on, and lead to this state.
abbrev pub Leads : Option Parts → MacState → List ℕ → List Told → MacState → Type 0
Leads waiting before text told after = (events 0 waiting before (levels_of text) ≡ told) × (run waiting before (levels_of text) ≡ after)

-- what a level makes of each of these phases
abbrev pub each : (MacPhase → MacState) → (ℕ → MacPhase) → Level → List ℕ → List (MacState × Option Event)
each in_phase phase x places = map (λ place. mac_step (in_phase (phase place)) None x) places

-- Frames.

abbrev pub standard : ℕ → Parts
standard raw = record { id = record { raw = raw; extended = false }; remote = false; dlc = 0; bytes = [] }

abbrev pub extended : ℕ → Parts
extended raw = record { id = record { raw = raw; extended = true }; remote = false; dlc = 0; bytes = [] }

-- the same identifier, in a remote frame
abbrev pub remote : Parts → Parts
remote f = record f { remote = true }

-- the standard data frame 001 without data
abbrev pub frame_001 : Parts
frame_001 = standard 1

-- its levels, acknowledged: the stuffed part, and the rest
abbrev pub part_001 : List ℕ
part_001 = codes "0000010000010100000100010001000010011"

abbrev pub tail : List ℕ
tail = codes "1011111111"

-- what a receiver has read of it, with a correct and a wrong CRC sequence
abbrev pub read_001 : Reading
read_001 = record { frame = frame_001; agrees = true }

abbrev pub refused_001 : Reading
refused_001 = record { frame = frame_001; agrees = false }

-- Controllers.

-- a receiver in this phase, with all its numbers 0
abbrev pub receiver : MacPhase → MacState
receiver phase = record idle { phase = phase }

abbrev pub sender_of : Parts → MacPhase → MacState
sender_of f phase = record idle { phase = phase; role = Sender f }

-- the transmitter of frame 001
abbrev pub sender : MacPhase → MacState
sender phase = sender_of frame_001 phase

abbrev pub with_tec : ℕ → MacState → MacState
with_tec n m = record m { counters = record m.counters { tec = n } }

abbrev pub with_rec : ℕ → MacState → MacState
with_rec n m = record m { counters = record m.counters { rec = n } }

-- with this many overload frames requested, and this many started
abbrev pub with_overloads : ℕ → ℕ → MacState → MacState
with_overloads pending used m = record m { overloads = record { pending = pending; used = used } }
