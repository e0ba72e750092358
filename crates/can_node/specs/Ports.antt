-- A port, that is, a CAN node: a controller with a queue of frames to send and a log of the frames sent and received. (docs/ACCESS.md,
-- "Ports"; Bosch CAN 2.0 part B, sections 2 and 3.2.1)
use Rattle.std.specs.Prelude.{ℕ, ◌≡◌, ◌≤◌, ◌+◌, ◌-◌, ◌^◌, nat_lt, min, Bool, true, false, if◌then◌else◌, List, [], ◌∷◌, ◌++◌, length, Option, Some, None, slice_get}
use Rattle.std.specs.declared.cmp.Ordering.{Ordering}
use Rattle.std.specs.declared.cmp.Ordering.TheVariants.{Less, Equal, Greater}
use Rattle.can_frame.specs.declared.level.Level.{Level}
use Rattle.can_frame.specs.Parts.{Parts, IsFrame}
use Rattle.can_frame.specs.Arbitration.{arbitration_field, field_cmp}
use Rattle.can_terms.specs.declared.event.Event.{Event}
use Rattle.can_terms.specs.declared.event.Event.TheVariants.{Sent, Received, Lost, Error, Overload, WentOff, Recovered}
use Rattle.can_mac.specs.declared.phase.Phase.TheVariants.{Idle}
use Rattle.can_mac.specs.State.{MacState, IsMac}
use Rattle.can_mac.specs.Machine.{mac_drives, mac_step, holding}
use Rattle.can_node.specs.declared.entry.Entry.{Entry}

-- the controller; the queue, in the order of the offers, and its capacity; the log and its capacity; the number of entries that the log
-- had no space for
pub record PortState : Type 0 where
  pub mac : MacState
  pub queue : List Parts
  pub queue_room : ℕ
  pub log : List Entry
  pub log_room : ℕ
  pub missed : ℕ

-- a port with an empty queue and log of these capacities
abbrev pub fresh_port : MacState → ℕ → ℕ → PortState
fresh_port mac queue_room log_room = record { mac = mac; queue = []; queue_room = queue_room; log = []; log_room = log_room; missed = 0 }

abbrev pub is_less : Ordering → Bool
is_less Less = true
is_less Equal = false
is_less Greater = false

abbrev pub is_equal : Ordering → Bool
is_equal Less = false
is_equal Equal = true
is_equal Greater = false

-- f has higher priority in arbitration than g
abbrev pub goes_before : Parts → Parts → Bool
goes_before f g = is_less (field_cmp (arbitration_field f) (arbitration_field g))

-- f and g have the same arbitration field
abbrev pub same_field : Parts → Parts → Bool
same_field f g = is_equal (field_cmp (arbitration_field f) (arbitration_field g))

-- of two frames, the one with higher priority; of one arbitration field, the first
abbrev pub earlier : Parts → Option Parts → Parts
earlier f None = f
earlier f (Some g) = if goes_before g f then g else f

-- the pending frame: that of the highest priority; of one arbitration field, the first in the queue
unfoldable pub waiting : List Parts → Option Parts
waiting [] = None
waiting (f ∷ queue) = Some (earlier f (waiting queue))

-- the queue without the first frame that has the arbitration field of this one
unfoldable pub without : Parts → List Parts → List Parts
without f [] = []
without f (g ∷ queue) = if same_field f g then queue else g ∷ without f queue

-- the count of missed entries stops here
abbrev pub missed_limit : ℕ
missed_limit = 2 ^ 32 - 1

-- one more entry in the log, or one more missed if the log is full
abbrev pub port_logging : Entry → PortState → PortState
port_logging entry p =
    if nat_lt (length p.log) p.log_room
    then record p { log = p.log ++ entry ∷ [] }
    else record p { missed = min (p.missed + 1) missed_limit }

-- queue and log after an event: a sent frame leaves the queue and is logged, a received frame is logged
abbrev pub port_noting : Option Event → PortState → PortState
port_noting (Some (Sent f)) p = port_logging (record { frame = f; sent = true }) (record p { queue = without f p.queue })
port_noting (Some (Received f)) p = port_logging (record { frame = f; sent = false }) p
port_noting (Some Lost) p = p
port_noting (Some (Error kind)) p = p
port_noting (Some Overload) p = p
port_noting (Some WentOff) p = p
port_noting (Some Recovered) p = p
port_noting None p = p

-- the level that a port drives
unfoldable pub port_drives : PortState → Level
port_drives p = mac_drives p.mac (waiting p.queue)

-- the event of a bit time in which a port samples this level
abbrev pub port_event : PortState → Level → Option Event
port_event p seen = (mac_step p.mac (waiting p.queue) seen).1

-- the port after this bit time
unfoldable pub port_step : PortState → Level → PortState
port_step p seen = port_noting (port_event p seen) (record p { mac = (mac_step p.mac (waiting p.queue) seen).0 })

-- a port at rest: its controller is idle, and no frame waits (Bosch CAN 2.0 part B, section 3.2.5)
abbrev pub IsAtRest : PortState → Type 0
IsAtRest p = (p.mac.phase ≡ Idle) × (waiting p.queue ≡ None)

-- the port with one more frame in its queue
abbrev pub port_offered : Parts → PortState → PortState
port_offered f p = record p { queue = p.queue ++ f ∷ [] }

-- a frame is offered: it is queued after the others, if there is space
abbrev pub with_offer : Parts → PortState → PortState
with_offer f p = if nat_lt (length p.queue) p.queue_room then port_offered f p else p

-- the frames of a list are queued, one after another
abbrev pub all_offered : List Parts → PortState → PortState
all_offered [] p = p
all_offered (f ∷ frames) p = all_offered frames (port_offered f p)

-- the port is asked for n overload frames
abbrev pub port_holding : ℕ → PortState → PortState
port_holding n p = record p { mac = holding n p.mac }

-- the port after these levels, one per bit time
unfoldable pub port_run : PortState → List Level → PortState
port_run p [] = p
port_run p (x ∷ levels) = port_run (port_step p x) levels

-- the events of these bit times
unfoldable pub port_events : PortState → List Level → List (Option Event)
port_events p [] = []
port_events p (x ∷ levels) = port_event p x ∷ port_events (port_step p x) levels

-- the invariant of ports: that of the controller, frames within their limits, queue and log within their capacities
pub record IsPort (p : PortState) : Type 0 where
  pub mac : IsMac p.mac
  pub queued : (n : ℕ) (f : Parts) → slice_get p.queue n ≡ Some f → IsFrame f
  pub logged : (n : ℕ) (entry : Entry) → slice_get p.log n ≡ Some entry → IsFrame entry.frame
  pub queue_fits : length p.queue ≤ p.queue_room
  pub log_fits : length p.log ≤ p.log_room
  pub missed_fits : p.missed ≤ missed_limit
