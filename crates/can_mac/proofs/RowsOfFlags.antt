-- Hand-computed test vectors of error flags, overload flags and their delimiters. Brackets name the rule of docs/ACCESS.md that a vector
-- checks.
use Rattle.std.proofs.Common.{◌≡◌, [], ◌∷◌, map, replicate, Some, None, refl, false, true}
use Rattle.std.specs.Prelude.{codes}
use Rattle.can_frame.specs.declared.level.Level.TheVariants.{Dominant, Recessive}
use Rattle.can_terms.specs.declared.event.Event.TheVariants.{Sent, Error, Overload}
use Rattle.can_terms.specs.declared.event.ErrorKind.TheVariants.{Bit, Form}
use Rattle.can_mac.specs.declared.phase.Phase.TheVariants.{CrcDelimiter, EndOfFrame, ErrorFlag, PassiveFlag, OverloadFlag, AfterFlag, Delimiter, Intermission}
use Rattle.can_mac.specs.State.{idle}
use Rattle.can_mac.specs.Machine.{holding, mac_drives, mac_step}
use Rattle.can_mac.proofs.RowWords.{Leads, at, each, frame_001, read_001, receiver, sender, with_overloads, with_rec, with_tec}

-- [Error flags] Six levels, dominant at an error active controller. Passive or active is decided before the error
-- is counted: at 127 the flag is still active.

active_flag : Leads None (receiver (ErrorFlag 0)) (codes "000000") [] (receiver (AfterFlag true 0))
unfolding mac_step
active_flag = (refl, refl)

active_flag_driven : map (λ place. mac_drives (receiver (ErrorFlag place)) None) (0 ∷ 1 ∷ 2 ∷ 3 ∷ 4 ∷ 5 ∷ []) ≡ replicate 6 Dominant
unfolding mac_drives
active_flag_driven = refl

no_seventh_level_driven : mac_drives (receiver (AfterFlag true 0)) None ≡ Recessive
unfolding mac_drives
no_seventh_level_driven = refl

active_at_a_tec_of_127 : Leads None (with_tec 127 (sender (CrcDelimiter read_001))) (codes "0") (at 0 (Error Bit) ∷ []) (with_tec 135 (sender (ErrorFlag 0)))
unfolding mac_step
active_at_a_tec_of_127 = (refl, refl)

passive_at_a_tec_of_128 : Leads None (with_tec 128 (sender (CrcDelimiter read_001))) (codes "0") (at 0 (Error Bit) ∷ []) (with_tec 136 (sender (PassiveFlag Recessive 0 false)))
unfolding mac_step
passive_at_a_tec_of_128 = (refl, refl)

active_at_a_rec_of_127 : Leads None (with_rec 127 (receiver (CrcDelimiter read_001))) (codes "0") (at 0 (Error Form) ∷ []) (with_rec 128 (receiver (ErrorFlag 0)))
unfolding mac_step
active_at_a_rec_of_127 = (refl, refl)

passive_at_a_rec_of_128 : Leads None (with_rec 128 (receiver (CrcDelimiter read_001))) (codes "0") (at 0 (Error Form) ∷ []) (with_rec 129 (receiver (PassiveFlag Recessive 0 false)))
unfolding mac_step
passive_at_a_rec_of_128 = (refl, refl)

-- [Error flags] A passive flag is recessive, and complete with six equal levels in a row: recessive ones, dominant ones, and after a
-- level of the other kind six more. The level before the flag is not one of them.

passive_flag_driven : mac_drives (receiver (PassiveFlag Recessive 3 false)) None ≡ Recessive
unfolding mac_drives
passive_flag_driven = refl

passive_flag_recessive : Leads None (with_rec 129 (receiver (PassiveFlag Recessive 0 false))) (codes "111111") [] (with_rec 129 (receiver (AfterFlag true 0)))
unfolding mac_step
passive_flag_recessive = (refl, refl)

passive_flag_of_five : Leads None (with_rec 129 (receiver (PassiveFlag Recessive 0 false))) (codes "11111") [] (with_rec 129 (receiver (PassiveFlag Recessive 5 false)))
unfolding mac_step
passive_flag_of_five = (refl, refl)

passive_flag_dominant : Leads None (with_rec 129 (receiver (PassiveFlag Recessive 0 false))) (codes "000000") [] (with_rec 129 (receiver (AfterFlag true 0)))
unfolding mac_step
passive_flag_dominant = (refl, refl)

passive_flag_begun_anew : Leads None (with_rec 129 (receiver (PassiveFlag Recessive 0 false))) (codes "1111100000111111") [] (with_rec 129 (receiver (AfterFlag true 0)))
unfolding mac_step
passive_flag_begun_anew = (refl, refl)

passive_flag_not_yet : Leads None (with_rec 129 (receiver (PassiveFlag Recessive 0 false))) (codes "111110000011111") [] (with_rec 129 (receiver (PassiveFlag Recessive 5 false)))
unfolding mac_step
passive_flag_not_yet = (refl, refl)

-- [Error in an own flag] A recessive level at any of the six places of an own active error flag or overload flag:
-- 8 once, and a new error flag.

error_flag_overridden_receiver : each receiver (λ place. ErrorFlag place) Recessive (0 ∷ 1 ∷ 2 ∷ 3 ∷ 4 ∷ 5 ∷ []) ≡ replicate 6 (with_rec 8 (receiver (ErrorFlag 0)), Some (Error Bit))
unfolding mac_step
error_flag_overridden_receiver = refl

error_flag_overridden_sender : each sender (λ place. ErrorFlag place) Recessive (0 ∷ 1 ∷ 2 ∷ 3 ∷ 4 ∷ 5 ∷ []) ≡ replicate 6 (with_tec 8 (sender (ErrorFlag 0)), Some (Error Bit))
unfolding mac_step
error_flag_overridden_sender = refl

overload_flag_overridden_receiver : each receiver (λ place. OverloadFlag place) Recessive (0 ∷ 1 ∷ 2 ∷ 3 ∷ 4 ∷ 5 ∷ []) ≡ replicate 6 (with_rec 8 (receiver (ErrorFlag 0)), Some (Error Bit))
unfolding mac_step
overload_flag_overridden_receiver = refl

overload_flag_overridden_sender : each sender (λ place. OverloadFlag place) Recessive (0 ∷ 1 ∷ 2 ∷ 3 ∷ 4 ∷ 5 ∷ []) ≡ replicate 6 (with_tec 8 (sender (ErrorFlag 0)), Some (Error Bit))
unfolding mac_step
overload_flag_overridden_sender = refl

-- An error passive controller's overload flag is dominant too; the error flag in its place is passive.
overload_flag_overridden_passive : Leads None (with_rec 128 (receiver (OverloadFlag 2))) (codes "1") (at 0 (Error Bit) ∷ []) (with_rec 136 (receiver (PassiveFlag Recessive 0 false)))
unfolding mac_step
overload_flag_overridden_passive = (refl, refl)

overload_flag_driven_passive : mac_drives (with_rec 128 (receiver (OverloadFlag 2))) None ≡ Dominant
unfolding mac_drives
overload_flag_driven_passive = refl

-- [After a flag] At a receiver the first level after an error flag, active or passive, counts 8 if it is dominant. After an overload
-- flag it counts nothing, and at a transmitter it never does.

first_dominant_behind_an_active_flag : Leads None (receiver (ErrorFlag 0)) (codes "0000000") [] (with_rec 8 (receiver (AfterFlag false 1)))
unfolding mac_step
first_dominant_behind_an_active_flag = (refl, refl)

first_dominant_behind_a_passive_flag : Leads None (with_rec 129 (receiver (PassiveFlag Recessive 0 false))) (codes "1111110") [] (with_rec 137 (receiver (AfterFlag false 1)))
unfolding mac_step
first_dominant_behind_a_passive_flag = (refl, refl)

first_dominant_behind_a_dominant_passive_flag : Leads None (with_rec 129 (receiver (PassiveFlag Recessive 0 false))) (codes "0000000") [] (with_rec 137 (receiver (AfterFlag false 1)))
unfolding mac_step
first_dominant_behind_a_dominant_passive_flag = (refl, refl)

first_dominant_behind_an_overload_flag : Leads None (receiver (OverloadFlag 0)) (codes "0000000") [] (receiver (AfterFlag false 1))
unfolding mac_step
first_dominant_behind_an_overload_flag = (refl, refl)

first_dominant_at_a_sender : Leads None (sender (ErrorFlag 0)) (codes "0000000") [] (sender (AfterFlag false 1))
unfolding mac_step
first_dominant_at_a_sender = (refl, refl)

first_dominant_at_a_passive_sender : Leads None (with_tec 136 (sender (PassiveFlag Recessive 0 false))) (codes "1111110") [] (with_tec 136 (sender (AfterFlag false 1)))
unfolding mac_step
first_dominant_at_a_passive_sender = (refl, refl)

first_dominant_at_a_sender_behind_an_overload_flag : Leads None (sender (OverloadFlag 0)) (codes "0000000") [] (sender (AfterFlag false 1))
unfolding mac_step
first_dominant_at_a_sender_behind_an_overload_flag = (refl, refl)

-- [After a flag] Every eighth dominant level in a row counts 8 more, after each kind of flag, at receiver and transmitter. The six of
-- the flag are not among them; the first one after it is.

seventh_dominant_behind_an_error_flag : Leads None (receiver (ErrorFlag 0)) (codes "0000000000000") [] (with_rec 8 (receiver (AfterFlag false 7)))
unfolding mac_step
seventh_dominant_behind_an_error_flag = (refl, refl)

eighth_dominant_behind_an_error_flag : Leads None (receiver (ErrorFlag 0)) (codes "00000000000000") [] (with_rec 16 (receiver (AfterFlag false 0)))
unfolding mac_step
eighth_dominant_behind_an_error_flag = (refl, refl)

sixteenth_dominant_behind_an_error_flag : Leads None (receiver (ErrorFlag 0)) (codes "0000000000000000000000") [] (with_rec 24 (receiver (AfterFlag false 0)))
unfolding mac_step
sixteenth_dominant_behind_an_error_flag = (refl, refl)

fifteenth_dominant_behind_an_error_flag : Leads None (receiver (ErrorFlag 0)) (codes "000000000000000000000") [] (with_rec 16 (receiver (AfterFlag false 7)))
unfolding mac_step
fifteenth_dominant_behind_an_error_flag = (refl, refl)

eighth_dominant_behind_a_passive_flag : Leads None (with_rec 129 (receiver (PassiveFlag Recessive 0 false))) (codes "11111100000000") [] (with_rec 145 (receiver (AfterFlag false 0)))
unfolding mac_step
eighth_dominant_behind_a_passive_flag = (refl, refl)

seventh_dominant_behind_an_overload_flag : Leads None (receiver (OverloadFlag 0)) (codes "0000000000000") [] (receiver (AfterFlag false 7))
unfolding mac_step
seventh_dominant_behind_an_overload_flag = (refl, refl)

eighth_dominant_behind_an_overload_flag : Leads None (receiver (OverloadFlag 0)) (codes "00000000000000") [] (with_rec 8 (receiver (AfterFlag false 0)))
unfolding mac_step
eighth_dominant_behind_an_overload_flag = (refl, refl)

seventh_dominant_at_a_sender : Leads None (sender (ErrorFlag 0)) (codes "0000000000000") [] (sender (AfterFlag false 7))
unfolding mac_step
seventh_dominant_at_a_sender = (refl, refl)

eighth_dominant_at_a_sender : Leads None (sender (ErrorFlag 0)) (codes "00000000000000") [] (with_tec 8 (sender (AfterFlag false 0)))
unfolding mac_step
eighth_dominant_at_a_sender = (refl, refl)

sixteenth_dominant_at_a_sender : Leads None (sender (ErrorFlag 0)) (codes "0000000000000000000000") [] (with_tec 16 (sender (AfterFlag false 0)))
unfolding mac_step
sixteenth_dominant_at_a_sender = (refl, refl)

eighth_dominant_at_a_passive_sender : Leads None (with_tec 136 (sender (PassiveFlag Recessive 0 false))) (codes "11111100000000") [] (with_tec 144 (sender (AfterFlag false 0)))
unfolding mac_step
eighth_dominant_at_a_passive_sender = (refl, refl)

eighth_dominant_at_a_sender_behind_an_overload_flag : Leads None (sender (OverloadFlag 0)) (codes "00000000000000") [] (with_tec 8 (sender (AfterFlag false 0)))
unfolding mac_step
eighth_dominant_at_a_sender_behind_an_overload_flag = (refl, refl)

-- [Delimiter] Eight recessive levels after each kind of flag, and after dominant levels that follow it: intermission begins with the
-- eighth, and not with the seventh.

delimiter_behind_an_active_flag : Leads None (receiver (ErrorFlag 0)) (codes "00000011111111") [] (receiver (Intermission 0))
unfolding mac_step
delimiter_behind_an_active_flag = (refl, refl)

delimiter_of_seven_behind_an_active_flag : Leads None (receiver (ErrorFlag 0)) (codes "0000001111111") [] (receiver (Delimiter 7))
unfolding mac_step
delimiter_of_seven_behind_an_active_flag = (refl, refl)

delimiter_behind_a_passive_flag : Leads None (with_rec 129 (receiver (PassiveFlag Recessive 0 false))) (codes "11111111111111") [] (with_rec 129 (receiver (Intermission 0)))
unfolding mac_step
delimiter_behind_a_passive_flag = (refl, refl)

delimiter_of_seven_behind_a_passive_flag : Leads None (with_rec 129 (receiver (PassiveFlag Recessive 0 false))) (codes "1111111111111") [] (with_rec 129 (receiver (Delimiter 7)))
unfolding mac_step
delimiter_of_seven_behind_a_passive_flag = (refl, refl)

delimiter_behind_a_dominant_passive_flag : Leads None (with_rec 129 (receiver (PassiveFlag Recessive 0 false))) (codes "0000001111111") [] (with_rec 129 (receiver (Delimiter 7)))
unfolding mac_step
delimiter_behind_a_dominant_passive_flag = (refl, refl)

delimiter_behind_an_overload_flag : Leads None (receiver (OverloadFlag 0)) (codes "00000011111111") [] (receiver (Intermission 0))
unfolding mac_step
delimiter_behind_an_overload_flag = (refl, refl)

delimiter_behind_dominant_levels : Leads None (receiver (OverloadFlag 0)) (codes "00000000011111111") [] (receiver (Intermission 0))
unfolding mac_step
delimiter_behind_dominant_levels = (refl, refl)

delimiter_at_a_sender : Leads None (sender (ErrorFlag 0)) (codes "00000011111111") [] (sender (Intermission 0))
unfolding mac_step
delimiter_at_a_sender = (refl, refl)

-- [Delimiter] At its places 2 to 7, which have 1 to 6 levels before them, a dominant level is a form error, to
-- receiver and transmitter. At the eighth place it is an overload condition, which counts nothing.

broken_delimiter_receiver : each receiver (λ place. Delimiter place) Dominant (1 ∷ 2 ∷ 3 ∷ 4 ∷ 5 ∷ 6 ∷ []) ≡ replicate 6 (with_rec 1 (receiver (ErrorFlag 0)), Some (Error Form))
unfolding mac_step
broken_delimiter_receiver = refl

broken_delimiter_sender : each sender (λ place. Delimiter place) Dominant (1 ∷ 2 ∷ 3 ∷ 4 ∷ 5 ∷ 6 ∷ []) ≡ replicate 6 (with_tec 8 (sender (ErrorFlag 0)), Some (Error Form))
unfolding mac_step
broken_delimiter_sender = refl

last_of_delimiter_receiver : Leads None (receiver (Delimiter 7)) (codes "0") (at 0 Overload ∷ []) (receiver (OverloadFlag 0))
unfolding mac_step
last_of_delimiter_receiver = (refl, refl)

last_of_delimiter_sender : Leads None (sender (Delimiter 7)) (codes "0") (at 0 Overload ∷ []) (sender (OverloadFlag 0))
unfolding mac_step
last_of_delimiter_sender = (refl, refl)

delimiter_driven : mac_drives (receiver (Delimiter 3)) None ≡ Recessive
unfolding mac_drives
delimiter_driven = refl

-- [Overload flags] Six dominant levels, which count nothing.

overload_flag : Leads None (receiver (OverloadFlag 0)) (codes "000000") [] (receiver (AfterFlag false 0))
unfolding mac_step
overload_flag = (refl, refl)

overload_flag_driven : map (λ place. mac_drives (receiver (OverloadFlag place)) None) (0 ∷ 1 ∷ 2 ∷ 3 ∷ 4 ∷ 5 ∷ []) ≡ replicate 6 Dominant
unfolding mac_drives
overload_flag_driven = refl

overload_flag_of_a_sender : Leads None (sender (OverloadFlag 0)) (codes "000000") [] (sender (AfterFlag false 0))
unfolding mac_step
overload_flag_of_a_sender = (refl, refl)

-- [Own overload frames] A receiver that asked for two starts one when it enters intermission, after a frame and after a delimiter, and
-- one more after that. A third one, requested in between, waits for the next frame.

own_overload_behind_a_frame : Leads None (with_overloads 2 0 (receiver (EndOfFrame read_001 6))) (codes "1") (at 0 Overload ∷ []) (with_overloads 1 1 (receiver (OverloadFlag 0)))
unfolding mac_step
own_overload_behind_a_frame = (refl, refl)

own_overload_behind_a_delimiter : Leads None (with_overloads 1 1 (receiver (Delimiter 7))) (codes "1") (at 0 Overload ∷ []) (with_overloads 0 2 (receiver (OverloadFlag 0)))
unfolding mac_step
own_overload_behind_a_delimiter = (refl, refl)

no_third_overload : Leads None (with_overloads 1 2 (receiver (Delimiter 7))) (codes "1") [] (with_overloads 1 2 (receiver (Intermission 0)))
unfolding mac_step
no_third_overload = (refl, refl)

no_overload_unasked : Leads None (with_overloads 0 1 (receiver (Delimiter 7))) (codes "1") [] (with_overloads 0 1 (receiver (Intermission 0)))
unfolding mac_step
no_overload_unasked = (refl, refl)

both_overloads : Leads None (with_overloads 2 0 (receiver (EndOfFrame read_001 6))) (codes "10000001111111100000011111111") (at 0 Overload ∷ at 14 Overload ∷ []) (with_overloads 0 2 (receiver (Intermission 0)))
unfolding mac_step
both_overloads = (refl, refl)

-- A transmitter starts none; what it asked for stays.
no_overload_of_a_sender : Leads None (with_overloads 2 0 (sender (EndOfFrame read_001 6))) (codes "1") (at 0 (Sent frame_001) ∷ []) (with_overloads 2 0 (sender (Intermission 0)))
unfolding mac_step
no_overload_of_a_sender = (refl, refl)

-- An overload flag in response to another's dominant level is not a requested one.
overload_of_another : Leads None (with_overloads 1 0 (receiver (Intermission 1))) (codes "0") (at 0 Overload ∷ []) (with_overloads 1 0 (receiver (OverloadFlag 0)))
unfolding mac_step
overload_of_another = (refl, refl)

later_wish_replaces : holding 1 (with_overloads 2 1 idle) ≡ with_overloads 1 1 idle
later_wish_replaces = refl
