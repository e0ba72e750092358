-- Windows and tallies computed on disturbed calls whose outcome is known from elsewhere.
use Rattle.std.proofs.Common.{◌≡◌, ℕ, zero, suc, ◌+◌, List, [], ◌∷◌, length, take, refl}
use Rattle.can_frame.specs.Levels.{bits_of}
use Rattle.can_frame.specs.Arbitration.{arbitration_field}
use Rattle.can_wire.specs.Crc.{crc_of}
use Rattle.can_wire.specs.Stuffing.{stuffed}
use Rattle.can_wire.specs.Wire.{head, unstuffed, stuffed_part, wire}
use Rattle.can_terms.specs.declared.hit.Hit.{Hit}
use Rattle.can_terms.specs.declared.hit.Hit.TheVariants.{In}
use Rattle.can_bus.specs.Course.{course_tally}
use Rattle.can_bus.specs.Quiet.{span}
use Rattle.can_bus.specs.RepairedLine.{lateness}
use Rattle.can_bus.specs.Attempts.{Tally, unstuffed_before}
use Rattle.can_bus.specs.Repair.{repaired_course, tally, repaired_span}
use Rattle.can_bus.proofs.RepairRows.{frame_000, frame_001}

abbrev pub counts : ℕ → ℕ → Tally
counts tec rec = record { tec = tec; rec = rec }

-- The window of `S 000 D 0` goes from 16 to 48: start of frame and field are 14 levels, with two stuff bits among them.
field_size : length (arbitration_field frame_000) ≡ 13
unfolding arbitration_field bits_of
field_size = refl

at_15 : unstuffed_before frame_000 15 ≡ 13
unfolding arbitration_field bits_of crc_of head unstuffed stuffed stuffed_part
at_15 = refl

at_16 : unstuffed_before frame_000 16 ≡ 14
unfolding arbitration_field bits_of crc_of head unstuffed stuffed stuffed_part
at_16 = refl

wire_size : length (wire frame_000) ≡ 50
unfolding arbitration_field bits_of crc_of head unstuffed stuffed stuffed_part
wire_size = refl

-- fifteen hits at 16, one an attempt
abbrev pub hits_from : ℕ → ℕ → List Hit
hits_from number zero = []
hits_from number (suc n) = In number 16 ∷ hits_from (number + 1) n

sender_after_fifteen : course_tally (frame_000 ∷ []) (take 15 (repaired_course (frame_000 ∷ []) (hits_from 0 15))) (counts 0 0) ≡ counts 120 0
unfolding repaired_course lateness arbitration_field bits_of crc_of head unstuffed stuffed stuffed_part
sender_after_fifteen = refl

receiver_after_fifteen : course_tally [] (take 15 (repaired_course (frame_000 ∷ []) (hits_from 0 15))) (counts 0 0) ≡ counts 0 15
unfolding repaired_course lateness arbitration_field bits_of crc_of head unstuffed stuffed stuffed_part
receiver_after_fifteen = refl

sender_of_fifteen : tally (frame_000 ∷ []) (frame_000 ∷ []) (hits_from 0 15) ≡ counts 119 0
unfolding repaired_course lateness arbitration_field bits_of crc_of head unstuffed stuffed stuffed_part
sender_of_fifteen = refl

receiver_of_fifteen : tally [] (frame_000 ∷ []) (hits_from 0 15) ≡ counts 0 14
unfolding repaired_course lateness arbitration_field bits_of crc_of head unstuffed stuffed stuffed_part
receiver_of_fifteen = refl

-- the second of two frames hit, each at a port of its own
sender_of_second : tally (frame_001 ∷ []) (frame_000 ∷ frame_001 ∷ []) (In 1 19 ∷ []) ≡ counts 7 0
unfolding repaired_course lateness arbitration_field bits_of crc_of head unstuffed stuffed stuffed_part
sender_of_second = refl

receiver_of_second : tally (frame_000 ∷ []) (frame_000 ∷ frame_001 ∷ []) (In 1 19 ∷ []) ≡ counts 0 0
unfolding repaired_course lateness arbitration_field bits_of crc_of head unstuffed stuffed stuffed_part
receiver_of_second = refl

bound_of_second : repaired_span (frame_000 ∷ frame_001 ∷ []) (In 1 19 ∷ []) ≡ 146
unfolding arbitration_field bits_of crc_of head unstuffed stuffed stuffed_part span
bound_of_second = refl

-- a hit after the ACK slot
sender_at_48 : tally (frame_000 ∷ []) (frame_000 ∷ []) (In 0 48 ∷ []) ≡ counts 7 0
unfolding repaired_course lateness arbitration_field bits_of crc_of head unstuffed stuffed stuffed_part
sender_at_48 = refl

receiver_at_48 : tally [] (frame_000 ∷ []) (In 0 48 ∷ []) ≡ counts 0 0
unfolding repaired_course lateness arbitration_field bits_of crc_of head unstuffed stuffed stuffed_part
receiver_at_48 = refl
