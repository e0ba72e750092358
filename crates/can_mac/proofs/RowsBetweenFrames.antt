-- Hand-computed test vectors of a controller between frames, and during bus off. Brackets name the rule of docs/ACCESS.md that a vector
-- checks.
use Rattle.std.proofs.Common.{◌≡◌, ℕ, [], ◌∷◌, ◌++◌, map, replicate, drop, Some, None, refl, true, false}
use Rattle.std.specs.Prelude.{codes}
use Rattle.can_frame.specs.declared.level.Level.TheVariants.{Dominant, Recessive}
use Rattle.can_frame.specs.Levels.{bits_of}
use Rattle.can_frame.specs.Arbitration.{arbitration_field}
use Rattle.can_wire.specs.Crc.{crc_of}
use Rattle.can_code.specs.Front.{first_front}
use Rattle.can_wire.specs.Wire.{head, unstuffed}
use Rattle.can_wire.specs.Layout.{frame_of, frame_len}
use Rattle.can_terms.specs.declared.event.Event.TheVariants.{Sent, Error, Overload, WentOff, Recovered}
use Rattle.can_terms.specs.declared.event.ErrorKind.TheVariants.{Bit}
use Rattle.can_mac.specs.declared.phase.Phase.TheVariants.{Joining, StuffedPart, EndOfFrame, ErrorFlag, PassiveFlag, OverloadFlag, AfterFlag, Intermission, Suspend, BusOff}
use Rattle.can_mac.specs.State.{MacState, idle, joining}
use Rattle.can_mac.specs.Moves.{agrees}
use Rattle.can_mac.specs.Machine.{mac_drives, mac_step}
use Rattle.can_mac.proofs.RowWords.{Leads, at, each, frame_001, part_001, read_001, receiver, sender, sender_of, standard, tail, with_overloads, with_rec, with_tec}

-- bus off with a TEC of 256, this many occurrences of eleven recessive levels, and this many levels in a row since the last
abbrev off_with : ℕ → ℕ → MacState
off_with occurrences row = record idle { phase = BusOff; counters = record { tec = 256; rec = 0; occurrences = occurrences; row = row } }

-- [Joining] Idle with the eleventh recessive level in a row; a dominant one restarts the row. Until then the controller drives recessive,
-- with any pending frame.

ten_while_joining : Leads (Some frame_001) joining (codes "1111111111") [] (receiver (Joining 10))
unfolding mac_step
ten_while_joining = (refl, refl)

eleven_while_joining : Leads (Some frame_001) joining (codes "11111111111") [] idle
unfolding mac_step
eleven_while_joining = (refl, refl)

row_begun_anew : Leads (Some frame_001) joining (codes "11111111110") [] joining
unfolding mac_step
row_begun_anew = (refl, refl)

row_begun_anew_takes_eleven : Leads (Some frame_001) joining (codes "1111111111011111111111") [] idle
unfolding mac_step
row_begun_anew_takes_eleven = (refl, refl)

silent_while_joining : mac_drives (receiver (Joining 10)) (Some frame_001) ≡ Recessive
unfolding mac_drives
silent_while_joining = refl

-- [Start of frame] An idle controller drives dominant exactly if it has a pending frame. A dominant level makes it the transmitter of
-- that frame, or a receiver. Its own start of frame, seen recessive, is a bit error of a transmitter.

idle_and_a_frame_waits : mac_drives idle (Some frame_001) ≡ Dominant
unfolding mac_drives
idle_and_a_frame_waits = refl

idle_and_nothing_waits : mac_drives idle None ≡ Recessive
unfolding mac_drives
idle_and_nothing_waits = refl

begins_as_sender : Leads (Some frame_001) idle (codes "0") [] (sender (StuffedPart first_front))
unfolding mac_step
begins_as_sender = (refl, refl)

begins_as_receiver : Leads None idle (codes "0") [] (receiver (StuffedPart first_front))
unfolding mac_step
begins_as_receiver = (refl, refl)

rests_while_nothing_waits : Leads None idle (codes "1111") [] idle
unfolding mac_step
rests_while_nothing_waits = (refl, refl)

start_of_frame_overridden : Leads (Some frame_001) idle (codes "1") (at 0 (Error Bit) ∷ []) (with_tec 8 (sender (ErrorFlag 0)))
unfolding mac_step
start_of_frame_overridden = (refl, refl)

start_of_frame_overridden_passive : Leads (Some frame_001) (with_tec 128 idle) (codes "1") (at 0 (Error Bit) ∷ []) (with_tec 136 (sender (PassiveFlag Recessive 0 false)))
unfolding mac_step
start_of_frame_overridden_passive = (refl, refl)

-- [Own overload frames] With each start of frame, in any phase, the count of those that were started is 0 again; the requests stay. This
-- holds whether the controller sends or receives.

overloads_forgotten_by_a_receiver : Leads None (with_overloads 1 2 idle) (codes "0") [] (with_overloads 1 0 (receiver (StuffedPart first_front)))
unfolding mac_step
overloads_forgotten_by_a_receiver = (refl, refl)

overloads_forgotten_by_a_sender : Leads (Some frame_001) (with_overloads 2 2 idle) (codes "0") [] (with_overloads 2 0 (sender (StuffedPart first_front)))
unfolding mac_step
overloads_forgotten_by_a_sender = (refl, refl)

overloads_forgotten_in_intermission : Leads None (with_overloads 1 2 (receiver (Intermission 2))) (codes "0") [] (with_overloads 1 0 (receiver (StuffedPart first_front)))
unfolding mac_step
overloads_forgotten_in_intermission = (refl, refl)

overloads_forgotten_in_suspend : Leads None (with_tec 128 (with_overloads 1 2 (sender (Suspend 3)))) (codes "0") [] (with_tec 128 (with_overloads 1 0 (receiver (StuffedPart first_front))))
unfolding mac_step
overloads_forgotten_in_suspend = (refl, refl)

overloads_kept_while_idle : Leads None (with_overloads 1 2 (receiver (Intermission 0))) (codes "111") [] (with_overloads 1 2 idle)
unfolding mac_step
overloads_kept_while_idle = (refl, refl)

-- [Kept frame] A transmitter of frame 001 has sent its start of frame. From then on frame 000 waits, or nothing: it
-- sends frame 001 all the same.

kept_while_another_waits : Leads (Some (standard 0)) (sender (StuffedPart first_front)) (drop 1 part_001 ++ tail) (at 45 (Sent frame_001) ∷ []) (sender (Intermission 0))
unfolding mac_step agrees crc_of frame_of frame_len bits_of unstuffed head arbitration_field
kept_while_another_waits = (refl, refl)

kept_while_nothing_waits : Leads None (sender (StuffedPart first_front)) (drop 1 part_001 ++ tail) (at 45 (Sent frame_001) ∷ []) (sender (Intermission 0))
unfolding mac_step agrees crc_of frame_of frame_len bits_of unstuffed head arbitration_field
kept_while_nothing_waits = (refl, refl)

-- [Intermission] Three recessive levels, in which no controller drives a start of frame. Afterwards the controller is idle, and no longer
-- a transmitter.

intermission_of_a_receiver : Leads (Some frame_001) (receiver (Intermission 0)) (codes "111") [] idle
unfolding mac_step
intermission_of_a_receiver = (refl, refl)

intermission_of_a_sender : Leads (Some frame_001) (sender (Intermission 0)) (codes "111") [] idle
unfolding mac_step
intermission_of_a_sender = (refl, refl)

intermission_driven : map (λ place. mac_drives (receiver (Intermission place)) (Some frame_001)) (0 ∷ 1 ∷ 2 ∷ []) ≡ replicate 3 Recessive
unfolding mac_drives
intermission_driven = refl

-- At its first and second place a dominant level is an overload condition, which counts nothing.
dominant_in_intermission_receiver : each receiver (λ place. Intermission place) Dominant (0 ∷ 1 ∷ []) ≡ replicate 2 (receiver (OverloadFlag 0), Some Overload)
unfolding mac_step
dominant_in_intermission_receiver = refl

dominant_in_intermission_sender : each sender (λ place. Intermission place) Dominant (0 ∷ 1 ∷ []) ≡ replicate 2 (sender (OverloadFlag 0), Some Overload)
unfolding mac_step
dominant_in_intermission_sender = refl

-- A dominant third level is a start of frame: of the pending frame, or of one to receive. An error passive receiver may send too.
start_in_intermission_receiver : Leads None (receiver (Intermission 0)) (codes "110") [] (receiver (StuffedPart first_front))
unfolding mac_step
start_in_intermission_receiver = (refl, refl)

start_in_intermission_of_what_waits : Leads (Some frame_001) (receiver (Intermission 0)) (codes "110") [] (sender (StuffedPart first_front))
unfolding mac_step
start_in_intermission_of_what_waits = (refl, refl)

start_in_intermission_of_the_next_frame : Leads (Some (standard 0)) (sender (Intermission 0)) (codes "110") [] (sender_of (standard 0) (StuffedPart first_front))
unfolding mac_step
start_in_intermission_of_the_next_frame = (refl, refl)

start_in_intermission_passive_receiver : Leads (Some frame_001) (with_rec 128 (receiver (Intermission 0))) (codes "110") [] (with_rec 128 (sender (StuffedPart first_front)))
unfolding mac_step
start_in_intermission_passive_receiver = (refl, refl)

-- what follows is its identifier, 100.. and 000..
first_bit_of_the_identifier_recessive : mac_drives (sender_of (standard 0x400) (StuffedPart first_front)) None ≡ Recessive
unfolding mac_drives mac_step unstuffed head arbitration_field crc_of bits_of
first_bit_of_the_identifier_recessive = refl

first_bit_of_the_identifier_dominant : mac_drives (sender_of (standard 0) (StuffedPart first_front)) None ≡ Dominant
unfolding mac_drives mac_step unstuffed head arbitration_field crc_of bits_of
first_bit_of_the_identifier_dominant = refl

-- [Suspend transmission] An error passive transmitter waits eight recessive levels more, silent, and is idle with the
-- eighth. A receiver doesn't, nor an error active transmitter (above).

suspend_begins : Leads (Some frame_001) (with_tec 128 (sender (Intermission 0))) (codes "111") [] (with_tec 128 (sender (Suspend 0)))
unfolding mac_step
suspend_begins = (refl, refl)

suspend_begins_passive_by_rec : Leads (Some frame_001) (with_rec 128 (sender (Intermission 0))) (codes "111") [] (with_rec 128 (sender (Suspend 0)))
unfolding mac_step
suspend_begins_passive_by_rec = (refl, refl)

no_suspend_of_a_receiver : Leads (Some frame_001) (with_rec 128 (receiver (Intermission 0))) (codes "111") [] (with_rec 128 idle)
unfolding mac_step
no_suspend_of_a_receiver = (refl, refl)

seven_in_suspend : Leads (Some frame_001) (with_tec 128 (sender (Suspend 0))) (codes "1111111") [] (with_tec 128 (sender (Suspend 7)))
unfolding mac_step
seven_in_suspend = (refl, refl)

eight_in_suspend : Leads (Some frame_001) (with_tec 128 (sender (Suspend 0))) (codes "11111111") [] (with_tec 128 idle)
unfolding mac_step
eight_in_suspend = (refl, refl)

suspend_driven : map (λ place. mac_drives (with_tec 128 (sender (Suspend place))) (Some frame_001)) (0 ∷ 1 ∷ 2 ∷ 3 ∷ 4 ∷ 5 ∷ 6 ∷ 7 ∷ []) ≡ replicate 8 Recessive
unfolding mac_drives
suspend_driven = refl

-- It receives a frame that begins in that time, although it has one to send; also in the last bit of intermission.
start_in_suspend : each (λ phase. with_tec 128 (sender phase)) (λ place. Suspend place) Dominant (0 ∷ 1 ∷ 2 ∷ 3 ∷ 4 ∷ 5 ∷ 6 ∷ 7 ∷ []) ≡ replicate 8 (with_tec 128 (receiver (StuffedPart first_front)), None)
unfolding mac_step
start_in_suspend = refl

start_in_suspend_while_a_frame_waits : Leads (Some frame_001) (with_tec 128 (sender (Suspend 7))) (codes "0") [] (with_tec 128 (receiver (StuffedPart first_front)))
unfolding mac_step
start_in_suspend_while_a_frame_waits = (refl, refl)

held_back_in_intermission : Leads (Some frame_001) (with_tec 128 (sender (Intermission 0))) (codes "110") [] (with_tec 128 (receiver (StuffedPart first_front)))
unfolding mac_step
held_back_in_intermission = (refl, refl)

held_back_in_intermission_passive_by_rec : Leads (Some frame_001) (with_rec 128 (sender (Intermission 0))) (codes "110") [] (with_rec 128 (receiver (StuffedPart first_front)))
unfolding mac_step
held_back_in_intermission_passive_by_rec = (refl, refl)

-- [Bus off] If the TEC becomes 256 or more, `WentOff` is reported in place of the error: in a frame of its own, and in its end; in an own
-- overload flag; after a flag, with the eighth dominant level; in a passive flag without acknowledgment. At 255 the transmitter is error
-- passive.

off_in_a_frame : Leads None (with_tec 250 (sender (StuffedPart first_front))) (codes "1") (at 0 WentOff ∷ []) (with_tec 258 (receiver BusOff))
unfolding mac_step agrees crc_of frame_of frame_len bits_of unstuffed head arbitration_field
off_in_a_frame = (refl, refl)

off_in_the_end_of_frame : Leads None (with_tec 248 (sender (EndOfFrame read_001 6))) (codes "0") (at 0 WentOff ∷ []) (with_tec 256 (receiver BusOff))
unfolding mac_step
off_in_the_end_of_frame = (refl, refl)

not_off_at_255 : Leads None (with_tec 247 (sender (EndOfFrame read_001 6))) (codes "0") (at 0 (Error Bit) ∷ []) (with_tec 255 (sender (PassiveFlag Recessive 0 false)))
unfolding mac_step
not_off_at_255 = (refl, refl)

off_in_an_overload_flag : Leads None (with_tec 255 (sender (OverloadFlag 3))) (codes "1") (at 0 WentOff ∷ []) (with_tec 263 (receiver BusOff))
unfolding mac_step
off_in_an_overload_flag = (refl, refl)

off_behind_a_flag : Leads None (with_tec 248 (sender (AfterFlag true 0))) (codes "00000000") (at 7 WentOff ∷ []) (with_tec 256 (receiver BusOff))
unfolding mac_step
off_behind_a_flag = (refl, refl)

off_without_acknowledgement : Leads None (with_tec 248 (sender (PassiveFlag Recessive 0 true))) (codes "10") (at 1 WentOff ∷ []) (with_tec 256 (receiver BusOff))
unfolding mac_step
off_without_acknowledgement = (refl, refl)

-- [Bus off] During bus off it drives recessive and takes part in nothing: levels count for recovery alone. The eleventh in a row is an
-- occurrence; with the 128th it is idle, its counters are 0, and `Recovered` is reported.

silent_while_off : mac_drives (with_tec 256 (receiver BusOff)) (Some frame_001) ≡ Recessive
unfolding mac_drives
silent_while_off = refl

a_row_while_off : Leads (Some frame_001) (with_tec 256 (receiver BusOff)) (codes "0000001111111") [] (off_with 0 7)
unfolding mac_step
a_row_while_off = (refl, refl)

an_occurrence_while_off : Leads (Some frame_001) (off_with 0 0) (codes "11111111111") [] (off_with 1 0)
unfolding mac_step
an_occurrence_while_off = (refl, refl)

no_occurrence_while_off : Leads (Some frame_001) (off_with 3 0) (codes "11111111110") [] (off_with 3 0)
unfolding mac_step
no_occurrence_while_off = (refl, refl)

almost_recovered : Leads (Some frame_001) (off_with 126 0) (codes "111111111111111111111") [] (off_with 127 10)
unfolding mac_step
almost_recovered = (refl, refl)

recovered_and_idle : Leads (Some frame_001) (off_with 126 0) (codes "1111111111111111111111") (at 21 Recovered ∷ []) idle
unfolding mac_step
recovered_and_idle = (refl, refl)

recovery_delayed : Leads (Some frame_001) (off_with 127 10) (codes "011111111111") (at 11 Recovered ∷ []) idle
unfolding mac_step
recovery_delayed = (refl, refl)
