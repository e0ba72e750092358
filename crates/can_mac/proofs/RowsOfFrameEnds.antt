-- Hand-computed test vectors of the end of a frame, from the CRC delimiter to the last level. Brackets name the rule of docs/ACCESS.md
-- that a vector checks.
use Rattle.std.proofs.Common.{◌≡◌, [], ◌∷◌, ◌++◌, map, replicate, take, Some, None, refl, true, false}
use Rattle.std.specs.Prelude.{codes}
use Rattle.can_frame.specs.declared.level.Level.TheVariants.{Dominant, Recessive}
use Rattle.can_frame.specs.Levels.{bits_of}
use Rattle.can_frame.specs.Arbitration.{arbitration_field}
use Rattle.can_wire.specs.Crc.{crc_of}
use Rattle.can_wire.specs.Wire.{head, unstuffed}
use Rattle.can_wire.specs.Layout.{frame_of, frame_len}
use Rattle.can_terms.specs.declared.event.Event.TheVariants.{Sent, Received, Error, Overload}
use Rattle.can_terms.specs.declared.event.ErrorKind.TheVariants.{Bit, Crc, Form, Ack}
use Rattle.can_mac.specs.declared.phase.Phase.TheVariants.{CrcDelimiter, AckSlot, AckDelimiter, EndOfFrame, ErrorFlag, PassiveFlag, OverloadFlag, AfterFlag, Intermission}
use Rattle.can_mac.specs.State.{idle}
use Rattle.can_mac.specs.Moves.{agrees}
use Rattle.can_mac.specs.Machine.{mac_drives, mac_step}
use Rattle.can_mac.proofs.RowWords.{Leads, at, each, frame_001, part_001, read_001, receiver, refused_001, sender, tail, with_rec, with_tec}

-- The first states of these vectors: after the stuffed part of frame 001, at its transmitter, at a receiver, and, with the last level of
-- the CRC sequence wrong, at a receiver.

sender_behind_the_part : Leads (Some frame_001) idle part_001 [] (sender (CrcDelimiter read_001))
unfolding mac_step agrees crc_of frame_of frame_len bits_of unstuffed head arbitration_field
sender_behind_the_part = (refl, refl)

receiver_behind_the_part : Leads None idle part_001 [] (receiver (CrcDelimiter read_001))
unfolding mac_step agrees crc_of frame_of frame_len bits_of
receiver_behind_the_part = (refl, refl)

refusing_behind_the_part : Leads None idle (take 36 part_001 ++ codes "0") [] (receiver (CrcDelimiter refused_001))
unfolding mac_step agrees crc_of frame_of frame_len bits_of
refusing_behind_the_part = (refl, refl)

-- [Fixed form] A dominant CRC delimiter or ACK delimiter is a form error to a receiver, who counts 1, and a bit
-- error to the transmitter, who counts 8.

crc_delimiter_received : Leads None (receiver (CrcDelimiter read_001)) (codes "0") (at 0 (Error Form) ∷ []) (with_rec 1 (receiver (ErrorFlag 0)))
unfolding mac_step
crc_delimiter_received = (refl, refl)

crc_delimiter_sent : Leads None (sender (CrcDelimiter read_001)) (codes "0") (at 0 (Error Bit) ∷ []) (with_tec 8 (sender (ErrorFlag 0)))
unfolding mac_step
crc_delimiter_sent = (refl, refl)

ack_delimiter_received : Leads None (receiver (AckDelimiter read_001)) (codes "0") (at 0 (Error Form) ∷ []) (with_rec 1 (receiver (ErrorFlag 0)))
unfolding mac_step
ack_delimiter_received = (refl, refl)

ack_delimiter_sent : Leads None (sender (AckDelimiter read_001)) (codes "0") (at 0 (Error Bit) ∷ []) (with_tec 8 (sender (ErrorFlag 0)))
unfolding mac_step
ack_delimiter_sent = (refl, refl)

-- [Fixed form], [Frame validation] In the end of frame a dominant level is a bit error to the transmitter at each of
-- its seven places, and a form error to a receiver at the first six.

end_of_frame_sent : each sender (λ place. EndOfFrame read_001 place) Dominant (0 ∷ 1 ∷ 2 ∷ 3 ∷ 4 ∷ 5 ∷ 6 ∷ []) ≡ replicate 7 (with_tec 8 (sender (ErrorFlag 0)), Some (Error Bit))
unfolding mac_step
end_of_frame_sent = refl

end_of_frame_received : each receiver (λ place. EndOfFrame read_001 place) Dominant (0 ∷ 1 ∷ 2 ∷ 3 ∷ 4 ∷ 5 ∷ []) ≡ replicate 6 (with_rec 1 (receiver (ErrorFlag 0)), Some (Error Form))
unfolding mac_step
end_of_frame_received = refl

-- [Dominant last level] It is an overload condition to a receiver, and counts nothing.
last_level_received : Leads None (receiver (EndOfFrame read_001 6)) (codes "0") (at 0 Overload ∷ []) (receiver (OverloadFlag 0))
unfolding mac_step
last_level_received = (refl, refl)

-- [Frame validation] The transmitter reports its frame with the seventh level of the end of frame, and counts it then: its TEC falls by
-- 1. A receiver reports it with the sixth; its REC has fallen by 1 with the ACK slot.

sent_and_counted : Leads None (with_tec 5 (sender (CrcDelimiter read_001))) tail (at 9 (Sent frame_001) ∷ []) (with_tec 4 (sender (Intermission 0)))
unfolding mac_step
sent_and_counted = (refl, refl)

not_sent_before_the_last_level : Leads None (with_tec 5 (sender (CrcDelimiter read_001))) (codes "101111111") [] (with_tec 5 (sender (EndOfFrame read_001 6)))
unfolding mac_step
not_sent_before_the_last_level = (refl, refl)

sent_with_a_tec_of_0 : Leads None (sender (CrcDelimiter read_001)) tail (at 9 (Sent frame_001) ∷ []) (sender (Intermission 0))
unfolding mac_step
sent_with_a_tec_of_0 = (refl, refl)

received_and_counted : Leads None (with_rec 5 (receiver (CrcDelimiter read_001))) tail (at 8 (Received frame_001) ∷ []) (with_rec 4 (receiver (Intermission 0)))
unfolding mac_step
received_and_counted = (refl, refl)

received_with_a_rec_of_0 : Leads None (receiver (CrcDelimiter read_001)) tail (at 8 (Received frame_001) ∷ []) (receiver (Intermission 0))
unfolding mac_step
received_with_a_rec_of_0 = (refl, refl)

counted_with_the_ack_slot : Leads None (with_rec 5 (receiver (CrcDelimiter read_001))) (codes "10") [] (with_rec 4 (receiver (AckDelimiter read_001)))
unfolding mac_step
counted_with_the_ack_slot = (refl, refl)

-- above 127 it becomes 127
counted_above_127 : Leads None (with_rec 200 (receiver (CrcDelimiter read_001))) (codes "10") [] (with_rec 127 (receiver (AckDelimiter read_001)))
unfolding mac_step
counted_above_127 = (refl, refl)

-- [Acknowledgement] In the ACK slot a receiver that found the CRC sequence right drives dominant; another one, and the transmitter, drive
-- recessive. All three drive recessive in both delimiters and in the end of frame.

receiver_acknowledges : mac_drives (receiver (AckSlot read_001)) None ≡ Dominant
unfolding mac_drives
receiver_acknowledges = refl

refusing_receiver_listens : mac_drives (receiver (AckSlot refused_001)) None ≡ Recessive
unfolding mac_drives
refusing_receiver_listens = refl

sender_listens : mac_drives (sender (AckSlot read_001)) None ≡ Recessive
unfolding mac_drives
sender_listens = refl

sender_is_silent_behind_its_part : map (λ phase. mac_drives (sender phase) (Some frame_001)) (CrcDelimiter read_001 ∷ AckDelimiter read_001 ∷ EndOfFrame read_001 0 ∷ EndOfFrame read_001 6 ∷ []) ≡ replicate 4 Recessive
unfolding mac_drives
sender_is_silent_behind_its_part = refl

-- The receiver's dominant level isn't on the bus: a bit error, and no reception is counted.
own_acknowledgement_overridden : Leads None (receiver (AckSlot read_001)) (codes "1") (at 0 (Error Bit) ∷ []) (with_rec 1 (receiver (ErrorFlag 0)))
unfolding mac_step
own_acknowledgement_overridden = (refl, refl)

sender_acknowledged : Leads None (with_tec 5 (sender (AckSlot read_001))) (codes "0") [] (with_tec 5 (sender (AckDelimiter read_001)))
unfolding mac_step
sender_acknowledged = (refl, refl)

-- Nobody acknowledged: 8 at an error active transmitter.
sender_unacknowledged : Leads None (sender (AckSlot read_001)) (codes "1") (at 0 (Error Ack) ∷ []) (with_tec 8 (sender (ErrorFlag 0)))
unfolding mac_step
sender_unacknowledged = (refl, refl)

-- [Unacknowledged passive sender] It counts nothing with the ACK slot, be it error passive by TEC or by REC.
-- Its flag of six recessive levels counts nothing either; the first dominant level in the flag counts 8, and the
-- next ones nothing.

passive_sender_unacknowledged : Leads None (with_tec 128 (sender (AckSlot read_001))) (codes "1") (at 0 (Error Ack) ∷ []) (with_tec 128 (sender (PassiveFlag Recessive 0 true)))
unfolding mac_step
passive_sender_unacknowledged = (refl, refl)

sender_passive_by_rec_unacknowledged : Leads None (with_rec 128 (sender (AckSlot read_001))) (codes "1") (at 0 (Error Ack) ∷ []) (with_rec 128 (sender (PassiveFlag Recessive 0 true)))
unfolding mac_step
sender_passive_by_rec_unacknowledged = (refl, refl)

unacknowledged_flag_recessive : Leads None (with_tec 128 (sender (PassiveFlag Recessive 0 true))) (codes "111111") [] (with_tec 128 (sender (AfterFlag true 0)))
unfolding mac_step
unacknowledged_flag_recessive = (refl, refl)

unacknowledged_flag_dominant_first : Leads None (with_tec 128 (sender (PassiveFlag Recessive 0 true))) (codes "0") [] (with_tec 136 (sender (PassiveFlag Dominant 1 false)))
unfolding mac_step
unacknowledged_flag_dominant_first = (refl, refl)

unacknowledged_flag_dominant_last : Leads None (with_tec 128 (sender (PassiveFlag Recessive 0 true))) (codes "111110") [] (with_tec 136 (sender (PassiveFlag Dominant 1 false)))
unfolding mac_step
unacknowledged_flag_dominant_last = (refl, refl)

unacknowledged_flag_dominant_twice : Leads None (with_tec 128 (sender (PassiveFlag Recessive 0 true))) (codes "1010111111") [] (with_tec 136 (sender (AfterFlag true 0)))
unfolding mac_step
unacknowledged_flag_dominant_twice = (refl, refl)

unacknowledged_flag_all_dominant : Leads None (with_tec 128 (sender (PassiveFlag Recessive 0 true))) (codes "000000") [] (with_tec 136 (sender (AfterFlag true 0)))
unfolding mac_step
unacknowledged_flag_all_dominant = (refl, refl)

-- the flag of another error counts none of them
other_passive_flag_dominant : Leads None (with_tec 136 (sender (PassiveFlag Recessive 0 false))) (codes "010111111") [] (with_tec 136 (sender (AfterFlag true 0)))
unfolding mac_step
other_passive_flag_dominant = (refl, refl)

-- [Refused CRC sequence] The ACK slot has no influence, and no reception is counted with it. The CRC error is reported with the ACK
-- delimiter; if that is dominant, only the form error is.

refused_slot_dominant : Leads None (with_rec 5 (receiver (AckSlot refused_001))) (codes "0") [] (with_rec 5 (receiver (AckDelimiter refused_001)))
unfolding mac_step
refused_slot_dominant = (refl, refl)

refused_slot_recessive : Leads None (with_rec 5 (receiver (AckSlot refused_001))) (codes "1") [] (with_rec 5 (receiver (AckDelimiter refused_001)))
unfolding mac_step
refused_slot_recessive = (refl, refl)

refused_with_the_ack_delimiter : Leads None (with_rec 5 (receiver (AckDelimiter refused_001))) (codes "1") (at 0 (Error Crc) ∷ []) (with_rec 6 (receiver (ErrorFlag 0)))
unfolding mac_step
refused_with_the_ack_delimiter = (refl, refl)

refused_and_dominant_delimiter : Leads None (with_rec 5 (receiver (AckDelimiter refused_001))) (codes "0") (at 0 (Error Form) ∷ []) (with_rec 6 (receiver (ErrorFlag 0)))
unfolding mac_step
refused_and_dominant_delimiter = (refl, refl)
