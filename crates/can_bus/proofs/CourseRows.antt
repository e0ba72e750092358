-- Courses that were worked out by hand, from the lengths of the frames' wires and from how late the receivers of a hit are, computed on the
-- definitions.
use Rattle.std.proofs.Common.{◌≡◌, ℕ, ◌+◌, Bool, true, false, Option, Some, None, List, [], ◌∷◌, ◌++◌, length, map, take, refl}
use Rattle.can_frame.specs.Arbitration.{arbitration_field}
use Rattle.can_frame.specs.Levels.{bits_of}
use Rattle.can_frame.specs.Parts.{Parts}
use Rattle.can_wire.specs.Crc.{crc_of}
use Rattle.can_wire.specs.Stuffing.{stuffed}
use Rattle.can_wire.specs.Layout.{frame_len}
use Rattle.can_wire.specs.Wire.{head, unstuffed, stuffed_part, wire}
use Rattle.can_node.specs.declared.entry.Entry.{Entry}
use Rattle.can_node.specs.Ports.{waiting}
use Rattle.can_terms.specs.declared.hit.Hit.TheVariants.{In}
use Rattle.can_bus.specs.Course.{Transmission, course_of, course_tally, ended_by, frames_sent, keeping}
use Rattle.can_bus.specs.CourseWaiting.{attempts_between, going_before, hit_attempts, kept_times, left_on, sends_of}
use Rattle.can_bus.specs.Quiet.{marked}
use Rattle.can_bus.specs.RepairedLine.{lateness}
use Rattle.can_bus.specs.Timed.{TimedParts}
use Rattle.can_bus.proofs.RepairRows.{frame_000, frame_001}
use Rattle.can_bus.proofs.TallyRows.{counts, hits_from}

-- `S 009 D 0`, and `S 001 D 1 55`
abbrev frame_009 : Parts
frame_009 = record { id = record { raw = 9; extended = false }; remote = false; dlc = 0; bytes = [] }

abbrev again_001 : Parts
again_001 = record { id = record { raw = 1; extended = false }; remote = false; dlc = 1; bytes = 0x55 ∷ [] }

-- their wires have 47, 49, 50 and 56 levels
sizes : map (λ f. length (wire f)) (frame_001 ∷ frame_009 ∷ frame_000 ∷ again_001 ∷ []) ≡ 47 ∷ 49 ∷ 50 ∷ 56 ∷ []
unfolding stuffed_part unstuffed stuffed crc_of head arbitration_field bits_of
sizes = refl

abbrev at : ℕ → Parts → TimedParts
at time f = record { time = time; frame = f }

abbrev goes : ℕ → Parts → Option ℕ → Transmission
goes time f hit = record { time = time; frame = f; hit = hit }

-- one identifier three times in a row: in the order of the offers
three : course_of [] (at 0 frame_001 ∷ at 0 again_001 ∷ at 30 frame_001 ∷ []) ≡ goes 0 frame_001 None ∷ goes 50 again_001 None ∷ goes 109 frame_001 None ∷ []
unfolding course_of waiting lateness stuffed_part unstuffed stuffed crc_of head arbitration_field bits_of frame_len
three = refl

-- 009 is hit at its level 30, and its receivers err six bit times later: the attempt keeps the bus for 54 bit times, in which 000 is offered
abbrev overtaken : List Transmission
overtaken = goes 0 frame_009 (Some 30) ∷ goes 54 frame_000 None ∷ goes 107 frame_009 None ∷ []

late_009 : lateness frame_009 30 ≡ 6
unfolding lateness stuffed_part unstuffed stuffed crc_of head arbitration_field bits_of frame_len
late_009 = refl

in_flags : course_of (In 0 30 ∷ []) (at 0 frame_009 ∷ at 40 frame_000 ∷ []) ≡ overtaken
unfolding course_of waiting lateness stuffed_part unstuffed stuffed crc_of head arbitration_field bits_of frame_len
in_flags = refl

-- the attempt after it is the third
third_hit : course_of (In 0 30 ∷ In 2 30 ∷ []) (at 0 frame_009 ∷ at 40 frame_000 ∷ []) ≡
    goes 0 frame_009 (Some 30) ∷ goes 54 frame_000 None ∷ goes 107 frame_009 (Some 30) ∷ goes 161 frame_009 None ∷ []
unfolding course_of waiting lateness stuffed_part unstuffed stuffed crc_of head arbitration_field bits_of frame_len
third_hit = refl

-- offered one bit time before the restart, in its very bit time, and one after it
before_restart : course_of (In 0 30 ∷ []) (at 0 frame_009 ∷ at 53 frame_000 ∷ []) ≡ overtaken
unfolding course_of waiting lateness stuffed_part unstuffed stuffed crc_of head arbitration_field bits_of frame_len
before_restart = refl

in_restart : course_of (In 0 30 ∷ []) (at 0 frame_009 ∷ at 54 frame_000 ∷ []) ≡ overtaken
unfolding course_of waiting lateness stuffed_part unstuffed stuffed crc_of head arbitration_field bits_of frame_len
in_restart = refl

behind_restart : course_of (In 0 30 ∷ []) (at 0 frame_009 ∷ at 55 frame_000 ∷ []) ≡ goes 0 frame_009 (Some 30) ∷ goes 54 frame_009 None ∷ goes 106 frame_000 None ∷ []
unfolding course_of waiting lateness stuffed_part unstuffed stuffed crc_of head arbitration_field bits_of frame_len
behind_restart = refl

-- a hit in the first place of a window, and one in the last
first_place : course_of (In 0 16 ∷ []) (at 0 frame_000 ∷ at 10 frame_001 ∷ []) ≡ goes 0 frame_000 (Some 16) ∷ goes 40 frame_000 None ∷ goes 93 frame_001 None ∷ []
unfolding course_of waiting lateness stuffed_part unstuffed stuffed crc_of head arbitration_field bits_of frame_len
first_place = refl

last_place : course_of (In 0 48 ∷ []) (at 0 frame_000 ∷ at 10 frame_001 ∷ []) ≡ goes 0 frame_000 (Some 48) ∷ goes 66 frame_000 None ∷ goes 119 frame_001 None ∷ []
unfolding course_of waiting lateness stuffed_part unstuffed stuffed crc_of head arbitration_field bits_of frame_len
last_place = refl

-- the wire of 000 has ended by 104, fifty levels after 54
not_yet : frames_sent (ended_by 103 overtaken) ≡ []
unfolding lateness stuffed_part unstuffed stuffed crc_of head arbitration_field bits_of frame_len
not_yet = refl

by_then : frames_sent (ended_by 104 overtaken) ≡ frame_000 ∷ []
unfolding lateness stuffed_part unstuffed stuffed crc_of head arbitration_field bits_of frame_len
by_then = refl

-- ---- counters

-- the transmitter of 009 in the course that is overtaken, and the port of 000
overtaken_sender : course_tally (frame_009 ∷ []) overtaken (counts 0 0) ≡ counts 7 0
unfolding stuffed_part unstuffed stuffed crc_of head arbitration_field bits_of
overtaken_sender = refl

overtaking_sender : course_tally (frame_000 ∷ []) overtaken (counts 0 0) ≡ counts 0 0
unfolding stuffed_part unstuffed stuffed crc_of head arbitration_field bits_of
overtaking_sender = refl

-- a second call, whose hit is on the stuff bit 19: the port that sent in the first, with TEC 7, and the one that sends now
abbrev second : List Transmission
second = goes 0 frame_001 (Some 19) ∷ goes 37 frame_001 None ∷ []

second_call : course_of (In 0 19 ∷ []) (at 0 frame_001 ∷ []) ≡ second
unfolding course_of waiting lateness stuffed_part unstuffed stuffed crc_of head arbitration_field bits_of frame_len
second_call = refl

second_receiver : course_tally [] second (counts 7 0) ≡ counts 7 0
unfolding stuffed_part unstuffed stuffed crc_of head arbitration_field bits_of
second_receiver = refl

second_sender : course_tally (frame_001 ∷ []) second (counts 0 0) ≡ counts 7 0
unfolding stuffed_part unstuffed stuffed crc_of head arbitration_field bits_of
second_sender = refl

-- the first call is over at 93; after it each log continues, with 000 and then 001, each as sent at its own port
abbrev first : List Transmission
first = goes 0 frame_000 (Some 16) ∷ goes 40 frame_000 None ∷ []

first_call : course_of (In 0 16 ∷ []) (at 0 frame_000 ∷ []) ≡ first
unfolding course_of waiting lateness stuffed_part unstuffed stuffed crc_of head arbitration_field bits_of frame_len
first_call = refl

first_over : map (λ (s : Transmission). s.time + keeping s.frame s.hit) first ≡ 40 ∷ 93 ∷ []
unfolding lateness stuffed_part unstuffed stuffed crc_of head arbitration_field bits_of frame_len
first_over = refl

abbrev entry : Parts → Bool → Entry
entry f sent = record { frame = f; sent = sent }

second_receiver_log : marked (frame_000 ∷ []) (frames_sent first) ++ marked [] (frames_sent second) ≡ entry frame_000 true ∷ entry frame_001 false ∷ []
unfolding arbitration_field bits_of
second_receiver_log = refl

second_sender_log : marked [] (frames_sent first) ++ marked (frame_001 ∷ []) (frames_sent second) ≡ entry frame_000 false ∷ entry frame_001 true ∷ []
unfolding arbitration_field bits_of
second_sender_log = refl

-- fifteen attempts that are hit at 16, and a sixteenth: 128 is not that of an error active port
fifteen : course_tally (frame_000 ∷ frame_000 ∷ []) (take 15 (course_of (hits_from 0 16) (at 0 frame_000 ∷ at 0 frame_000 ∷ []))) (counts 0 0) ≡ counts 120 0
unfolding course_of waiting lateness stuffed_part unstuffed stuffed crc_of head arbitration_field bits_of frame_len
fifteen = refl

sixteen : course_tally (frame_000 ∷ frame_000 ∷ []) (take 16 (course_of (hits_from 0 16) (at 0 frame_000 ∷ at 0 frame_000 ∷ []))) (counts 0 0) ≡ counts 128 0
unfolding course_of waiting lateness stuffed_part unstuffed stuffed crc_of head arbitration_field bits_of frame_len
sixteen = refl

-- ---- waiting

-- as 000 is offered at 40, 14 bit times are left of the attempt that was hit, and nothing goes before it
left_of_hit : left_on 40 overtaken ≡ 14
unfolding lateness stuffed_part unstuffed stuffed crc_of head arbitration_field bits_of frame_len
left_of_hit = refl

nothing_before : going_before (at 0 frame_009 ∷ at 40 frame_000 ∷ []) overtaken 1 (at 40 frame_000) 54 ≡ []
unfolding lateness stuffed_part unstuffed stuffed crc_of head arbitration_field bits_of frame_len
nothing_before = refl

-- 009 is sent at 107: the hit has cost 54 bit times, and 000 goes before it
sent_third : sends_of frame_009 overtaken ≡ goes 107 frame_009 None ∷ []
unfolding arbitration_field bits_of
sent_third = refl

one_before : going_before (at 0 frame_009 ∷ at 40 frame_000 ∷ []) overtaken 0 (at 0 frame_009) 107 ≡ at 40 frame_000 ∷ []
unfolding lateness stuffed_part unstuffed stuffed crc_of head arbitration_field bits_of frame_len
one_before = refl

hit_costs : kept_times (hit_attempts (attempts_between 0 107 overtaken)) ≡ 54
unfolding lateness stuffed_part unstuffed stuffed crc_of head arbitration_field bits_of frame_len
hit_costs = refl

-- of three of one field the last waits for the second alone, if the first has been sent by then
second_before : going_before (at 0 frame_001 ∷ at 0 again_001 ∷ at 30 frame_001 ∷ []) (goes 0 frame_001 None ∷ goes 50 again_001 None ∷ goes 109 frame_001 None ∷ []) 2 (at 30 frame_001) 109 ≡ at 0 again_001 ∷ []
unfolding lateness stuffed_part unstuffed stuffed crc_of head arbitration_field bits_of frame_len
second_before = refl
