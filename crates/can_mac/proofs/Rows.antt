-- Whole runs of the machine, computed on levels whose outcome is known from elsewhere.
use Rattle.std.proofs.Common.{◌≡◌, ℕ, zero, suc, ◌+◌, List, [], ◌∷◌, ◌++◌, map, replicate, take, Option, Some, None, refl, false}
use Rattle.std.specs.Prelude.{codes}
use Rattle.can_frame.specs.declared.level.Level.{Level}
use Rattle.can_frame.specs.declared.level.Level.TheVariants.{Dominant, Recessive}
use Rattle.can_frame.specs.Levels.{bits_of}
use Rattle.can_frame.specs.Arbitration.{arbitration_field}
use Rattle.can_frame.specs.Parts.{Parts}
use Rattle.can_wire.specs.Crc.{crc_of}
use Rattle.can_wire.specs.Stuffing.{stuffed}
use Rattle.can_wire.specs.Wire.{head, unstuffed, stuffed_part}
use Rattle.can_wire.specs.Layout.{frame_of, frame_len}
use Rattle.can_fault.specs.Counters.{fresh}
use Rattle.can_terms.specs.declared.event.Event.TheVariants.{Sent, Received, Lost, Error, Overload}
use Rattle.can_terms.specs.declared.event.ErrorKind.TheVariants.{Bit, Stuff, Crc, Form}
use Rattle.can_mac.specs.declared.phase.Phase.TheVariants.{Idle, Delimiter, Intermission, ErrorFlag, PassiveFlag}
use Rattle.can_mac.specs.State.{MacState, idle, joining}
use Rattle.can_mac.specs.Moves.{agrees}
use Rattle.can_mac.specs.Machine.{mac_drives, mac_step}
use Rattle.can_mac.specs.Frames.{with_intermission, frame_event, frame_state}
use Rattle.can_mac.proofs.RowWords.{Told, at, events, levels_of, run, silence, standard}

abbrev errors : ℕ → ℕ → List Told
errors time zero = []
errors time (suc n) = at time (Error Bit) ∷ errors (time + 1) n

-- Six dominant levels and then recessive ones, at an idle controller.

abbrev six : List Level
six = replicate 6 Dominant

six_told : events 0 None idle (six ++ silence 40) ≡ at 5 (Error Stuff) ∷ errors 6 17
unfolding mac_step frame_len
six_told = refl

six_first : (run None idle six).counters ≡ record fresh { rec = 1 }
unfolding mac_step frame_len
six_first = refl

six_counted : (run None idle (six ++ silence 1)).counters ≡ record fresh { rec = 9 }
unfolding mac_step frame_len
six_counted = refl

six_passive : (run None idle (six ++ silence 16)).counters ≡ record fresh { rec = 129 }
unfolding mac_step frame_len
six_passive = refl

six_last : run None idle (six ++ silence 16) ≡ record idle { phase = ErrorFlag 0; counters = record fresh { rec = 129 } }
unfolding mac_step frame_len
six_last = refl

six_flag : run None idle (six ++ silence 17) ≡ record idle { phase = PassiveFlag Recessive 0 false; counters = record fresh { rec = 137 } }
unfolding mac_step frame_len
six_flag = refl

six_delimiter : (run None idle (six ++ silence 24)).phase ≡ Delimiter 1
unfolding mac_step frame_len
six_delimiter = refl

six_intermission : (run None idle (six ++ silence 31)).phase ≡ Intermission 0
unfolding mac_step frame_len
six_intermission = refl

six_idle : (run None idle (six ++ silence 34)).phase ≡ Idle
unfolding mac_step frame_len
six_idle = refl

-- Frames.

-- the stuffed part of the standard data frame 001 without data
abbrev part_001 : List Level
part_001 = levels_of (codes "0000010000010100000100010001000010011")

abbrev wire_001 : List Level
wire_001 = part_001 ++ levels_of (codes "1011111111")

abbrev wire_000 : List Level
wire_000 = levels_of (codes "00000100000100000100000100000100000100001011111111")

abbrev dominant_last : List Level
dominant_last = part_001 ++ levels_of (codes "1011111110")

-- a dominant last level of the end of frame
last_told : events 0 None idle (dominant_last ++ (six ++ silence 11)) ≡ at 45 (Received (standard 1)) ∷ at 46 Overload ∷ []
unfolding mac_step agrees crc_of frame_of frame_len bits_of
last_told = refl

last_idle : run None idle (dominant_last ++ (six ++ silence 11)) ≡ idle
unfolding mac_step agrees crc_of frame_of frame_len bits_of
last_idle = refl

last_intermission : (run None idle (dominant_last ++ (six ++ silence 8))).phase ≡ Intermission 0
unfolding mac_step agrees crc_of frame_of frame_len bits_of
last_intermission = refl

-- Frame 001 is heard while nothing waits, then it waits: the dominant level in the last bit of intermission is its start of frame.
taken_as_start : events 47 (Some (standard 1)) (run None idle wire_001) (silence 2 ++ wire_001) ≡ at 95 (Sent (standard 1)) ∷ []
unfolding mac_step agrees crc_of frame_of frame_len bits_of unstuffed head arbitration_field
taken_as_start = refl

heard_told : events 0 None idle wire_001 ≡ at 45 (Received (standard 1)) ∷ []
unfolding mac_step agrees crc_of frame_of frame_len bits_of
heard_told = refl

start_unsent : mac_drives (run None idle (wire_001 ++ silence 2)) (Some (standard 1)) ≡ Recessive
unfolding mac_step mac_drives agrees crc_of frame_of frame_len bits_of
start_unsent = refl

-- Joining takes eleven recessive levels in a row.
almost : List Level
almost = silence 10 ++ (Dominant ∷ silence 10)

joining_silent : mac_drives (run (Some (standard 0)) joining almost) (Some (standard 0)) ≡ Recessive
unfolding mac_step mac_drives almost
joining_silent = refl

joined_drives : mac_drives (run (Some (standard 0)) joining (almost ++ silence 1)) (Some (standard 0)) ≡ Dominant
unfolding mac_step mac_drives almost
joined_drives = refl

-- Frame 001 waits, and loses arbitration against frame 000.
abbrev waiting_001 : Option Parts
waiting_001 = Some (standard 1)

abbrev lost_at : ℕ → MacState
lost_at n = run waiting_001 idle (take n (wire_000 ++ silence 3))

lost_told : events 0 waiting_001 idle (wire_000 ++ silence 3) ≡ at 13 Lost ∷ at 48 (Received (standard 0)) ∷ []
unfolding mac_step agrees crc_of frame_of frame_len bits_of unstuffed head arbitration_field
lost_told = refl

lost_acknowledges : mac_drives (lost_at 41) waiting_001 ≡ Dominant
unfolding mac_step mac_drives agrees crc_of frame_of frame_len bits_of unstuffed head arbitration_field
lost_acknowledges = refl

lost_starts_again : mac_drives (lost_at 53) waiting_001 ≡ Dominant
unfolding mac_step mac_drives agrees crc_of frame_of frame_len bits_of unstuffed head arbitration_field
lost_starts_again = refl

-- Dominant levels after flags, and in delimiters.
abbrev rough : List Level
rough = part_001 ++ (replicate 15 Dominant ++ (silence 7 ++ (replicate 7 Dominant ++ (silence 8 ++ (replicate 7 Dominant ++ (silence 1 ++ (replicate 7 Dominant ++ silence 11)))))))

rough_told : events 0 None idle rough ≡ at 37 (Error Form) ∷ at 59 Overload ∷ at 74 Overload ∷ at 82 (Error Form) ∷ []
unfolding mac_step agrees crc_of frame_of frame_len bits_of
rough_told = refl

rough_rec : ℕ → ℕ
rough_rec n = (run None idle (take n rough)).counters.rec

rough_counted : map rough_rec (38 ∷ 45 ∷ 52 ∷ 83 ∷ []) ≡ 1 ∷ 9 ∷ 17 ∷ 18 ∷ []
unfolding mac_step agrees crc_of frame_of frame_len bits_of rough_rec
rough_counted = refl

rough_idle : run None idle rough ≡ record idle { counters = record fresh { rec = 18 } }
unfolding mac_step agrees crc_of frame_of frame_len bits_of
rough_idle = refl

-- Frame 001 with a level changed: one error, which is counted once.
abbrev errs_once : List Level → List Told → Type 0
errs_once levels told = (events 0 None idle levels ≡ told) × ((run None idle levels).counters ≡ record fresh { rec = 1 })

-- the last level of the CRC sequence is dominant
abbrev wrong_check : List Level
wrong_check = take 36 part_001 ++ levels_of (codes "010")

wrong_check_unacknowledged : mac_drives (run None idle (take 38 wrong_check)) None ≡ Recessive
unfolding mac_step mac_drives agrees crc_of frame_of frame_len bits_of
wrong_check_unacknowledged = refl

wrong_check_refused : errs_once (wrong_check ++ silence 1) (at 39 (Error Crc) ∷ [])
unfolding mac_step agrees crc_of frame_of frame_len bits_of
wrong_check_refused = (refl, refl)

-- and the ACK delimiter too
wrong_check_and_form : errs_once (wrong_check ++ Dominant ∷ []) (at 39 (Error Form) ∷ [])
unfolding mac_step agrees crc_of frame_of frame_len bits_of
wrong_check_and_form = (refl, refl)

-- the ACK delimiter alone
wrong_form : errs_once (part_001 ++ levels_of (codes "100")) (at 39 (Error Form) ∷ [])
unfolding mac_step agrees crc_of frame_of frame_len bits_of
wrong_form = (refl, refl)

-- the receiver's own acknowledgment is not on the bus
wrong_slot : errs_once (part_001 ++ levels_of (codes "11")) (at 38 (Error Bit) ∷ [])
unfolding mac_step agrees crc_of frame_of frame_len bits_of
wrong_slot = (refl, refl)

-- What the definitions of a frame at a controller say of the same frames.
line_001 : with_intermission (standard 1) ≡ wire_001 ++ silence 3
unfolding stuffed_part unstuffed stuffed head arbitration_field crc_of bits_of
line_001 = refl

received_001 : frame_event (standard 1) None 45 ≡ Some (Received (standard 1))
unfolding stuffed_part unstuffed stuffed head arbitration_field crc_of bits_of
received_001 = refl

sent_001 : frame_event (standard 1) (Some (standard 1)) 46 ≡ Some (Sent (standard 1))
unfolding stuffed_part unstuffed stuffed head arbitration_field crc_of bits_of
sent_001 = refl

lost_001 : frame_event (standard 0) (Some (standard 1)) 13 ≡ Some Lost
unfolding stuffed_part unstuffed stuffed head arbitration_field crc_of bits_of
lost_001 = refl

idle_001 : frame_state (standard 1) None 0 fresh 50 ≡ idle
unfolding stuffed_part unstuffed stuffed head arbitration_field crc_of bits_of
idle_001 = refl
