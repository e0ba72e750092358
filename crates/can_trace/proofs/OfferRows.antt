-- The order of offers, and the reports of an open scenario's ports, computed for a few lists.
use Rattle.std.proofs.Common.{◌≡◌, ℕ, Bool, false, true, List, [], ◌∷◌, map, refl}
use Rattle.can_frame.specs.Arbitration.{arbitration_field}
use Rattle.can_frame.specs.Levels.{bits_of}
use Rattle.can_frame.specs.Parts.{Parts}
use Rattle.can_wire.specs.Crc.{crc_of}
use Rattle.can_wire.specs.Stuffing.{stuffed}
use Rattle.can_wire.specs.Wire.{head, stuffed_part, unstuffed}
use Rattle.can_fault.specs.declared.state.State.TheVariants.{Active}
use Rattle.can_node.specs.declared.entry.Entry.{Entry}
use Rattle.can_node.specs.Ports.{waiting}
use Rattle.can_bus.specs.declared.offer.Offer.{Offer}
use Rattle.can_bus.specs.Timed.{TimedParts, frames_of, timed}
use Rattle.can_bus.specs.Course.{course_of}
use Rattle.can_bus.specs.Schedule.{schedule}
use Rattle.can_trace.specs.OpenReport.{quiet_port}
use Rattle.can_trace.specs.Report.{PortReport}
use Rattle.can_trace.specs.ScenarioOffers.{in_time}

-- `S 000 D 0`, `S 001 D 0`, `S 009 D 0`
abbrev frame : ℕ → Parts
frame identifier = record { id = record { raw = identifier; extended = false }; remote = false; dlc = 0; bytes = [] }

-- it in a log, and a port with this log
abbrev entry : ℕ → Bool → Entry
entry identifier sent = record { frame = frame identifier; sent = sent }

abbrev told : List Entry → PortReport
told log = record { state = Active; tec = 0; rec = 0; missed = 0; log = log }

-- an offer of such a frame
abbrev offer : ℕ → ℕ → ℕ → Offer
offer time node identifier = record { time = time; node = node; frame = frame identifier }

-- times that don't rise in a queue
by_time : in_time (offer 50 0 0 ∷ offer 0 0 1 ∷ offer 49 1 9 ∷ []) ≡ offer 0 0 1 ∷ offer 49 1 9 ∷ offer 50 0 0 ∷ []
unfolding in_time
by_time = refl

-- offers with the same time are in the order of ports, and those to one port in the order of its queue
at_one_time : in_time (offer 7 0 5 ∷ offer 3 0 4 ∷ offer 7 0 2 ∷ offer 7 1 1 ∷ offer 3 2 0 ∷ []) ≡ offer 3 0 4 ∷ offer 3 2 0 ∷ offer 7 0 5 ∷ offer 7 0 2 ∷ offer 7 1 1 ∷ []
unfolding in_time
at_one_time = refl

-- `S 009 D 0` is offered in the last bit time of the first frame's intermission, and `S 000 D 0` after it
abbrev starts : List TimedParts
starts = record { time = 0; frame = frame 1 } ∷ record { time = 50; frame = frame 0 } ∷ record { time = 103; frame = frame 9 } ∷ []

starts-are : schedule (map timed (offer 0 0 1 ∷ offer 49 1 9 ∷ offer 50 0 0 ∷ [])) ≡ starts
unfolding course_of waiting stuffed_part unstuffed stuffed crc_of head arbitration_field bits_of
starts-are = refl

-- the reports of the ports: each has all frames, in the order of their starts
ports-told : map (quiet_port (frames_of starts)) ((frame 0 ∷ frame 1 ∷ []) ∷ (frame 9 ∷ []) ∷ [])
    ≡ told (entry 1 true ∷ entry 0 true ∷ entry 9 false ∷ []) ∷ told (entry 1 false ∷ entry 0 false ∷ entry 9 true ∷ []) ∷ []
unfolding arbitration_field bits_of
ports-told = refl
