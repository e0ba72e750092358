-- The status of each call: the first refusal that applies, in the order of the tests below. (bindings/README.md,
-- "Errors")
use Rattle.std.specs.Prelude.{ℕ, ◌==◌, nat_lt, nat_le, if◌then◌else◌, Option, Some, None, unwrap_or, List, length}
use Rattle.can_wire.specs.Wire.{driven}
use Rattle.can_node.specs.Ports.{PortState}
use Rattle.can_c.specs.declared.plain.PlainFrame.{PlainFrame}
use Rattle.can_c.specs.declared.status.Status.{Status}
use Rattle.can_c.specs.declared.status.Status.TheVariants.{Done, NoPort, NoMemory, QueueFull, NoEntry, BadLevel, BadCount, NoLevels, NoRoom}
use Rattle.can_frame.specs.Levels.{are_level_codes, is_level_code}
use Rattle.can_c.specs.PlainFrames.{frame_of_plain, refusal}

-- the status of a call that a port never refuses
abbrev pub port_status : Option PortState → Status
port_status None = NoPort
port_status (Some p) = Done

-- why a port is not copied
abbrev pub copy_refusal : Option PortState → Status
copy_refusal None = NoPort
copy_refusal (Some p) = NoMemory

-- the status of queueing a frame: the handle has no port, the frame is invalid, or the queue is full
abbrev pub offer_status : Option PortState → PlainFrame → Status
offer_status None frame = NoPort
offer_status (Some p) frame = unwrap_or (refusal frame) (if nat_lt (length p.queue) p.queue_room then Done else QueueFull)

-- the status of a request for `count` overload frames, at most 2
abbrev pub hold_status : Option PortState → ℕ → Status
hold_status None count = NoPort
hold_status (Some p) count = if nat_le count 2 then Done else BadCount

-- the status of sampling a level
abbrev pub sample_status : Option PortState → ℕ → Status
sample_status None level = NoPort
sample_status (Some p) level = if is_level_code level then Done else BadLevel

-- the status of sampling levels, with lists for what is driven and for the event of each bit time
abbrev pub run_status : Option PortState → List ℕ → List ℕ → List ℕ → Status
run_status None levels drives events = NoPort
run_status (Some p) levels drives events =
    if length levels == 0 then NoLevels
    else if length drives == length levels
    then (if length events == length levels then (if are_level_codes levels then Done else BadLevel) else NoRoom)
    else NoRoom

-- the status of reading the entry of the log with this number, counted from 0
abbrev pub entry_status : Option PortState → ℕ → Status
entry_status None number = NoPort
entry_status (Some p) number = if nat_lt number (length p.log) then Done else NoEntry

-- the status of encoding a frame into a list of this length
abbrev pub encode_status : PlainFrame → List ℕ → Status
encode_status frame levels =
    unwrap_or (refusal frame) (if nat_le (length (driven (frame_of_plain frame))) (length levels) then Done else NoRoom)
