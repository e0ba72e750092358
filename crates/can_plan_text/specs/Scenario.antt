-- The worst case of a message as a scenario of version 2. (docs/PLANNING.md, "The worst case"; docs/FORMATS.md, "`canbit
-- run`")
use Rattle.std.specs.Prelude.{ℕ, ◌+◌, min, List, ◌++◌, length, take, drop, codes, decimal}
use Rattle.std.specs.List.{flat_map, sum_by}
use Rattle.can_frame.specs.Parts.{Parts}
use Rattle.can_frame.specs.Text.{frame_text}
use Rattle.can_plan_text.specs.declared.case.Sequence.{Sequence}
use Rattle.can_plan_text.specs.declared.case.WorstCase.{WorstCase}

-- how many ports have the frames of a single message
abbrev pub own_ports : ℕ
own_ports = 63

-- the capacity of each log, in entries: the number of all frames, but at most 65536
abbrev pub log_room : List Sequence → ℕ
log_room sequences = min (sum_by (λ s. length s.times.items) sequences) 65536

-- `    [428, "S 300 D 7 00000000000000"],`
unfoldable pub offer_line : Parts → ℕ → List ℕ
offer_line f time = codes "    [" ++ (decimal time ++ (codes ", \"" ++ (frame_text f ++ codes "\"],\n")))

-- a line for each time at which a frame is offered
abbrev pub offer_lines : Sequence → List ℕ
offer_lines s = flat_map (offer_line s.frame) s.times.items

-- the text before the offers to a port
unfoldable pub port_begin : List ℕ
port_begin = codes "\n[[port]]\nqueue = [\n"

-- the text after them
unfoldable pub port_end : ℕ → List ℕ
port_end room = codes "]\nlog = " ++ (decimal room ++ codes "\n")

-- a port with the frames of one message
unfoldable pub own_port : ℕ → Sequence → List ℕ
own_port room s = port_begin ++ (offer_lines s ++ port_end room)

-- one port with the frames of all these messages; it listens if there are none
unfoldable pub shared_port : ℕ → List Sequence → List ℕ
shared_port room sequences = port_begin ++ (flat_map offer_lines sequences ++ port_end room)

-- the version of the format, and the number of bit times
unfoldable pub head_lines : ℕ → List ℕ
head_lines bits = codes "version = 2\nbits = " ++ (decimal bits ++ codes "\n")

-- the whole scenario: the run ends when the bus is no longer busy
abbrev pub scenario_text : WorstCase → List ℕ
scenario_text w =
    head_lines (w.long + 1) ++
    (flat_map (own_port (log_room w.sequences.items)) (take own_ports w.sequences.items) ++
    shared_port (log_room w.sequences.items) (drop own_ports w.sequences.items))
