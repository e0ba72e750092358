-- Ports computed on levels whose outcome is known from elsewhere.
use Rattle.std.proofs.Common.{◌≡◌, ℕ, ◌-◌, ◌^◌, List, [], ◌∷◌, ◌++◌, map, drop, replicate, take, refl, true, false}
use Rattle.std.specs.Prelude.{codes, Some, None, slice_get}
use Rattle.can_frame.specs.declared.level.Level.{Level}
use Rattle.can_frame.specs.declared.level.Level.TheVariants.{Dominant, Recessive}
use Rattle.can_frame.specs.Levels.{level_of, bits_of}
use Rattle.can_frame.specs.Arbitration.{arbitration_field}
use Rattle.can_frame.specs.Parts.{Parts}
use Rattle.can_wire.specs.Crc.{crc_of}
use Rattle.can_wire.specs.Wire.{head, unstuffed}
use Rattle.can_wire.specs.Layout.{frame_of, frame_len}
use Rattle.can_terms.specs.declared.event.Event.TheVariants.{Sent, Received, Lost, Error, Overload, WentOff, Recovered}
use Rattle.can_terms.specs.declared.event.ErrorKind.TheVariants.{Ack}
use Rattle.can_mac.specs.declared.phase.Phase.TheVariants.{BusOff}
use Rattle.can_mac.specs.State.{idle}
use Rattle.can_mac.specs.Moves.{agrees}
use Rattle.can_mac.specs.Machine.{mac_drives, mac_step}
use Rattle.can_node.specs.declared.entry.Entry.{Entry}
use Rattle.can_node.specs.Ports.{PortState, fresh_port, port_noting, port_offered, port_drives, port_events, port_holding, port_run, port_step, waiting, without}

-- the levels of a text of `0` and `1`
abbrev levels_of : List ℕ → List Level
levels_of text = map (λ c. level_of (c - 48)) text

abbrev standard_frame : ℕ → ℕ → List ℕ → Parts
standard_frame raw dlc bytes = record { id = record { raw = raw; extended = false }; remote = false; dlc = dlc; bytes = bytes }

abbrev empty_frame : ℕ → Parts
empty_frame raw = standard_frame raw 0 []

abbrev sent : Parts → Entry
sent f = record { frame = f; sent = true }

abbrev taken : Parts → Entry
taken f = record { frame = f; sent = false }

-- the levels of the standard data frames 000 and 001 without data, and three of intermission
abbrev wire_000 : List Level
wire_000 = levels_of (codes "00000100000100000100000100000100000100001011111111111")

abbrev wire_001 : List Level
wire_001 = levels_of (codes "00000100000101000001000100010000100111011111111111")

-- A log with capacity for one entry misses the second.

abbrev heard_two : PortState
heard_two = port_run (fresh_port idle 1 1) (wire_001 ++ wire_000)

heard_two_logged : heard_two ≡ record (fresh_port idle 1 1) { log = taken (empty_frame 1) ∷ []; missed = 1 }
unfolding port_run port_step waiting mac_step agrees crc_of frame_of frame_len bits_of
heard_two_logged = refl

-- Equal fields wait in the order in which they were offered, and before greater ones.

abbrev first : Parts
first = standard_frame 0 1 (0 ∷ [])

abbrev second : Parts
second = standard_frame 0 1 (1 ∷ [])

abbrev third : Parts
third = empty_frame 1

abbrev remote_000 : Parts
remote_000 = record (empty_frame 0) { remote = true }

abbrev extended_000 : Parts
extended_000 = record (empty_frame 0) { id = record { raw = 0; extended = true } }

first_waits : waiting (third ∷ first ∷ second ∷ []) ≡ Some first
unfolding waiting arbitration_field bits_of
first_waits = refl

second_waits : waiting (without first (third ∷ first ∷ second ∷ [])) ≡ Some second
unfolding waiting without arbitration_field bits_of
second_waits = refl

third_waits : waiting (without second (without first (third ∷ first ∷ second ∷ []))) ≡ Some third
unfolding waiting without arbitration_field bits_of
third_waits = refl

-- A lesser frame that is offered in mid-frame goes next, and the one on the wire is sent whole.

abbrev joined_later : PortState
joined_later = port_offered (empty_frame 0) (port_run (port_offered (empty_frame 1) (fresh_port idle 2 2)) (take 10 wire_001))

both_sent : port_run joined_later (drop 10 wire_001 ++ wire_000) ≡ record (fresh_port idle 2 2) { log = sent (empty_frame 1) ∷ sent (empty_frame 0) ∷ [] }
unfolding port_run port_step waiting without mac_step agrees crc_of frame_of frame_len bits_of unstuffed head arbitration_field
both_sent = refl

-- Two overload frames of its own, one after the other.

abbrev overload_frame : List Level
overload_frame = replicate 6 Dominant ++ replicate 8 Recessive

abbrev delayed : List Level
delayed = take 47 wire_001 ++ (overload_frame ++ overload_frame)

first_overload : slice_get (port_events (port_holding 2 (fresh_port idle 0 1)) delayed) 46 ≡ Some (Some Overload)
unfolding port_events port_step waiting mac_step agrees crc_of frame_of frame_len bits_of
first_overload = refl

second_overload : slice_get (port_events (port_holding 2 (fresh_port idle 0 1)) delayed) 60 ≡ Some (Some Overload)
unfolding port_events port_step waiting mac_step agrees crc_of frame_of frame_len bits_of
second_overload = refl

no_third_overload : slice_get (port_events (port_holding 2 (fresh_port idle 0 1)) delayed) 74 ≡ Some None
unfolding port_events port_step waiting mac_step agrees crc_of frame_of frame_len bits_of
no_third_overload = refl

-- Each rule of a port, at one step: [Frame that waits], [Offer], [Sent], [Received], [Full log] of docs/ACCESS.md.

-- three frames wait, of which the second has the highest priority, and there is space for two entries
abbrev three_wait : PortState
three_wait = record (fresh_port idle 3 2) { queue = third ∷ first ∷ second ∷ [] }

-- [Frame that waits] a remote frame has lower priority than the data frame of its identifier, and an extended frame than the standard one
-- of its first eleven bits
remote_waits_behind : waiting (remote_000 ∷ empty_frame 0 ∷ []) ≡ Some (empty_frame 0)
unfolding waiting arbitration_field bits_of
remote_waits_behind = refl

extended_waits_behind : waiting (extended_000 ∷ remote_000 ∷ []) ≡ Some remote_000
unfolding waiting arbitration_field bits_of
extended_waits_behind = refl

nothing_waits : waiting [] ≡ None
unfolding waiting
nothing_waits = refl

-- a start of frame is driven exactly if a frame waits
start_driven : port_drives three_wait ≡ Dominant
unfolding port_drives waiting mac_drives arbitration_field bits_of
start_driven = refl

no_start_driven : port_drives (fresh_port idle 3 2) ≡ Recessive
unfolding port_drives waiting mac_drives
no_start_driven = refl

-- [Offer] after the others
offered_behind : (port_offered second (port_offered first (fresh_port idle 3 2))).queue ≡ first ∷ second ∷ []
offered_behind = refl

-- [Sent] the first frame of the field leaves, and is logged; the one after it with the same field stays
first_sent : port_noting (Some (Sent first)) three_wait ≡ record three_wait { queue = third ∷ second ∷ []; log = sent first ∷ [] }
unfolding without arbitration_field bits_of
first_sent = refl

-- nothing else makes a frame leave, or makes an entry
not_sent : map (λ event. port_noting event three_wait) (Some Lost ∷ Some (Error Ack) ∷ Some Overload ∷ Some WentOff ∷ Some Recovered ∷ None ∷ []) ≡ replicate 6 three_wait
not_sent = refl

-- [Received] a frame is logged, and the queue stays, even if the same frame waits
frame_taken : port_noting (Some (Received first)) three_wait ≡ record three_wait { log = taken first ∷ [] }
frame_taken = refl

-- an entry comes after the earlier ones
second_taken : port_noting (Some (Received second)) (port_noting (Some (Received first)) three_wait) ≡ record three_wait { log = taken first ∷ taken second ∷ [] }
second_taken = refl

-- [Full log] an entry without space is counted, whether received or sent, and the sent frame leaves all the same
full_and_received : port_noting (Some (Received first)) (record three_wait { log_room = 0 }) ≡ record three_wait { log_room = 0; missed = 1 }
full_and_received = refl

full_and_sent : port_noting (Some (Sent first)) (record three_wait { log_room = 0 }) ≡ record three_wait { queue = third ∷ second ∷ []; log_room = 0; missed = 1 }
unfolding without arbitration_field bits_of
full_and_sent = refl

-- the count stops
missed_stops : port_noting (Some (Received first)) (record three_wait { log_room = 0; missed = 2 ^ 32 - 1 }) ≡ record three_wait { log_room = 0; missed = 2 ^ 32 - 1 }
missed_stops = refl

last_missed : port_noting (Some (Received first)) (record three_wait { log_room = 0; missed = 2 ^ 32 - 2 }) ≡ record three_wait { log_room = 0; missed = 2 ^ 32 - 1 }
last_missed = refl

-- off the bus a frame stays in the queue, and nothing is driven
abbrev port_off : PortState
port_off = record three_wait { mac = record idle { phase = BusOff; counters = record { tec = 256; rec = 0; occurrences = 0; row = 0 } } }

off_keeps_its_frames : (port_run port_off wire_000).queue ≡ third ∷ first ∷ second ∷ []
unfolding port_run port_step waiting mac_step arbitration_field bits_of
off_keeps_its_frames = refl

off_drives_nothing : port_drives port_off ≡ Recessive
unfolding port_drives waiting mac_drives arbitration_field bits_of
off_drives_nothing = refl

-- a frame that lost arbitration waits again, and so does one in which an error came
loser_keeps_its_frame : (port_run (port_offered (empty_frame 1) (fresh_port idle 1 1)) wire_000).queue ≡ empty_frame 1 ∷ []
unfolding port_run port_step waiting without mac_step agrees crc_of frame_of frame_len bits_of unstuffed head arbitration_field
loser_keeps_its_frame = refl

error_keeps_its_frame : (port_run (port_offered (empty_frame 1) (fresh_port idle 1 1)) (levels_of (codes "01"))).queue ≡ empty_frame 1 ∷ []
unfolding port_run port_step waiting without mac_step frame_len bits_of unstuffed head arbitration_field crc_of
error_keeps_its_frame = refl
