-- Hand-computed test vectors of arbitration and stuff bits. Brackets name the rule of docs/ACCESS.md that a vector checks.
use Rattle.std.proofs.Common.{◌≡◌, ℕ, List, [], ◌∷◌, ◌++◌, take, Option, Some, None, refl, true}
use Rattle.std.specs.Prelude.{codes}
use Rattle.can_frame.specs.declared.level.Level.{Level}
use Rattle.can_frame.specs.declared.level.Level.TheVariants.{Dominant, Recessive}
use Rattle.can_frame.specs.Levels.{bits_of}
use Rattle.can_frame.specs.Arbitration.{arbitration_field}
use Rattle.can_frame.specs.Parts.{Parts}
use Rattle.can_wire.specs.Crc.{crc_of}
use Rattle.can_wire.specs.Wire.{head, unstuffed}
use Rattle.can_wire.specs.Layout.{frame_of, frame_len}
use Rattle.can_fault.specs.Counters.{ConfineParts, fresh}
use Rattle.can_terms.specs.declared.event.Event.TheVariants.{Received, Lost, Error}
use Rattle.can_terms.specs.declared.event.ErrorKind.TheVariants.{Bit, Stuff}
use Rattle.can_mac.specs.declared.phase.Role.{Role}
use Rattle.can_mac.specs.declared.phase.Role.TheVariants.{Receiver, Sender}
use Rattle.can_mac.specs.declared.phase.Phase.TheVariants.{CrcDelimiter}
use Rattle.can_mac.specs.State.{idle}
use Rattle.can_mac.specs.Moves.{agrees}
use Rattle.can_mac.specs.Machine.{mac_drives, mac_step}
use Rattle.can_mac.proofs.RowWords.{Told, at, events, extended, levels_of, part_001, read_001, remote, run, standard, tail}

-- the events that levels, given as text, cause at an idle controller, and its state and counters afterwards
abbrev comes_to : Option Parts → List ℕ → List Told × Role × ConfineParts
comes_to waiting text = (events 0 waiting idle (levels_of text), (run waiting idle (levels_of text)).role, (run waiting idle (levels_of text)).counters)

-- with this pending frame, and without one
abbrev sending : Parts → List ℕ → List Told × Role × ConfineParts
sending f text = comes_to (Some f) text

abbrev receiving : List ℕ → List Told × Role × ConfineParts
receiving text = comes_to None text

-- the events that levels cause at the transmitter of this frame, and what it drives afterwards
abbrev drives_behind : Parts → List ℕ → List Told × Level
drives_behind f text = (events 0 (Some f) idle (levels_of text), mac_drives (run (Some f) idle (levels_of text)) None)

-- one error of a transmitter
abbrev by_8 : ConfineParts
by_8 = record fresh { tec = 8 }

-- a remote frame that asks for eight bytes: the first bit of its DLC is recessive
abbrev asking_for_8 : Parts → Parts
asking_for_8 f = record (remote f) { dlc = 8 }

abbrev wire_000 : List ℕ
wire_000 = codes "00000100000100000100000100000100000100001011111111"

abbrev part_009 : List ℕ
part_009 = codes "000001000100100000100111110000011000001"

-- [Arbitration] A recessive level of one's own that is overridden loses at each kind of place up to RTR: the last
-- bit of the identifier; RTR of a remote frame, against a data frame; SRR, against a standard data frame; IDE, against
-- a standard remote frame; the last bit of the identifier's extension; RTR of an extended remote frame. The loser is
-- a receiver then, and nothing is counted.

lost_in_the_identifier : sending (standard 1) (codes "00000100000100") ≡ (at 13 Lost ∷ [], Receiver, fresh)
unfolding mac_step unstuffed head arbitration_field crc_of bits_of frame_len
lost_in_the_identifier = refl

lost_at_rtr : sending (remote (standard 0)) (codes "000001000001000") ≡ (at 14 Lost ∷ [], Receiver, fresh)
unfolding mac_step unstuffed head arbitration_field crc_of bits_of frame_len
lost_at_rtr = refl

lost_at_srr : sending (extended 0x048c0000) (codes "0001001000110") ≡ (at 12 Lost ∷ [], Receiver, fresh)
unfolding mac_step unstuffed head arbitration_field crc_of bits_of frame_len
lost_at_srr = refl

lost_at_ide : sending (extended 0x048c0000) (codes "00010010001110") ≡ (at 13 Lost ∷ [], Receiver, fresh)
unfolding mac_step unstuffed head arbitration_field crc_of bits_of frame_len
lost_at_ide = refl

lost_in_the_extension : sending (extended 0x048c0001) (codes "00010010001111000001000001000001000") ≡ (at 34 Lost ∷ [], Receiver, fresh)
unfolding mac_step unstuffed head arbitration_field crc_of bits_of frame_len
lost_in_the_extension = refl

lost_at_rtr_of_an_extended_frame : sending (remote (extended 0x048c0000)) (codes "000100100011110000010000010000010000") ≡ (at 35 Lost ∷ [], Receiver, fresh)
unfolding mac_step unstuffed head arbitration_field crc_of bits_of frame_len
lost_at_rtr_of_an_extended_frame = refl

-- [Arbitration] Any other difference is a bit error: a dominant level of the identifier, of RTR or of IDE that is seen recessive; and
-- right after arbitration, where the reserved bits are dominant and the DLC is the first that can be overridden.

identifier_not_on_the_bus : sending (standard 1) (codes "01") ≡ (at 1 (Error Bit) ∷ [], Sender (standard 1), by_8)
unfolding mac_step unstuffed head arbitration_field crc_of bits_of frame_len
identifier_not_on_the_bus = refl

rtr_not_on_the_bus : sending (standard 0) (codes "000001000001001") ≡ (at 14 (Error Bit) ∷ [], Sender (standard 0), by_8)
unfolding mac_step unstuffed head arbitration_field crc_of bits_of frame_len
rtr_not_on_the_bus = refl

ide_not_on_the_bus : sending (standard 0) (codes "0000010000010001") ≡ (at 15 (Error Bit) ∷ [], Sender (standard 0), by_8)
unfolding mac_step unstuffed head arbitration_field crc_of bits_of frame_len
ide_not_on_the_bus = refl

data_length_overridden : sending (asking_for_8 (standard 0)) (codes "000001000001001000") ≡ (at 17 (Error Bit) ∷ [], Sender (asking_for_8 (standard 0)), by_8)
unfolding mac_step unstuffed head arbitration_field crc_of bits_of frame_len
data_length_overridden = refl

data_length_of_an_extended_frame_overridden : sending (asking_for_8 (extended 0x048c0000)) (codes "000100100011110000010000010000010001000") ≡ (at 38 (Error Bit) ∷ [], Sender (asking_for_8 (extended 0x048c0000)), by_8)
unfolding mac_step unstuffed head arbitration_field crc_of bits_of frame_len
data_length_of_an_extended_frame_overridden = refl

goes_on_where_its_levels_are_on_the_bus : sending (standard 1) (codes "0000010000010100000") ≡ ([], Sender (standard 1), fresh)
unfolding mac_step unstuffed head arbitration_field crc_of bits_of frame_len
goes_on_where_its_levels_are_on_the_bus = refl

-- The loser continues as a receiver of the frame that won, and drives its acknowledgment.
loser_receives : sending (remote (standard 0)) wire_000 ≡ (at 14 Lost ∷ at 48 (Received (standard 0)) ∷ [], Receiver, fresh)
unfolding mac_step agrees crc_of frame_of frame_len bits_of unstuffed head arbitration_field
loser_receives = refl

loser_acknowledges : drives_behind (remote (standard 0)) (take 41 wire_000) ≡ (at 14 Lost ∷ [], Dominant)
unfolding mac_step agrees crc_of frame_of frame_len bits_of unstuffed head arbitration_field mac_drives
loser_acknowledges = refl

-- [Stuff places] After five equal levels, stuff bits included, a transmitter drives the opposite. A level that repeats the five is a
-- stuff error, at receiver and transmitter.

stuff_bit_driven_recessive : drives_behind (standard 0) (codes "00000") ≡ ([], Recessive)
unfolding mac_step mac_drives unstuffed head arbitration_field crc_of bits_of frame_len
stuff_bit_driven_recessive = refl

stuff_bit_driven_dominant : drives_behind (standard 0x7ff) (codes "011111") ≡ ([], Dominant)
unfolding mac_step mac_drives unstuffed head arbitration_field crc_of bits_of frame_len
stuff_bit_driven_dominant = refl

stuff_bit_counts_in_a_row : drives_behind (standard 0x07f) (codes "0000011111") ≡ ([], Dominant)
unfolding mac_step mac_drives unstuffed head arbitration_field crc_of bits_of frame_len
stuff_bit_counts_in_a_row = refl

no_stuff_bit_behind_four : drives_behind (standard 0) (codes "0000") ≡ ([], Dominant)
unfolding mac_step mac_drives unstuffed head arbitration_field crc_of bits_of frame_len
no_stuff_bit_behind_four = refl

sixth_dominant_received : receiving (codes "000000") ≡ (at 5 (Error Stuff) ∷ [], Receiver, record fresh { rec = 1 })
unfolding mac_step frame_len
sixth_dominant_received = refl

sixth_recessive_received : receiving (codes "0111111") ≡ (at 6 (Error Stuff) ∷ [], Receiver, record fresh { rec = 1 })
unfolding mac_step frame_len
sixth_recessive_received = refl

sixth_with_a_stuff_bit_received : receiving (codes "00000111111") ≡ (at 10 (Error Stuff) ∷ [], Receiver, record fresh { rec = 1 })
unfolding mac_step frame_len
sixth_with_a_stuff_bit_received = refl

-- A transmitter's dominant stuff bit, seen recessive, counts 8 in arbitration too.
dominant_stuff_bit_not_on_the_bus : sending (standard 0x7ff) (codes "0111111") ≡ (at 6 (Error Stuff) ∷ [], Sender (standard 0x7ff), by_8)
unfolding mac_step unstuffed head arbitration_field crc_of bits_of frame_len
dominant_stuff_bit_not_on_the_bus = refl

-- [Overridden stuff bit] A transmitter's recessive stuff bit, seen dominant, counts nothing before RTR, with 12 or 32 unstuffed levels
-- before it, and 8 after RTR. It does not lose arbitration.

overridden_before_rtr : sending (standard 0x560) (codes "0101011000000") ≡ (at 12 (Error Stuff) ∷ [], Sender (standard 0x560), fresh)
unfolding mac_step unstuffed head arbitration_field crc_of bits_of frame_len
overridden_before_rtr = refl

overridden_behind_rtr : sending (standard 0x550) (codes "01010101000000") ≡ (at 13 (Error Stuff) ∷ [], Sender (standard 0x550), by_8)
unfolding mac_step unstuffed head arbitration_field crc_of bits_of frame_len
overridden_behind_rtr = refl

overridden_before_rtr_of_an_extended_frame : sending (extended 0x15555560) (codes "010101010101110101010101011000000") ≡ (at 32 (Error Stuff) ∷ [], Sender (extended 0x15555560), fresh)
unfolding mac_step unstuffed head arbitration_field crc_of bits_of frame_len
overridden_before_rtr_of_an_extended_frame = refl

overridden_behind_rtr_of_an_extended_frame : sending (extended 0x15555550) (codes "0101010101011101010101010101000000") ≡ (at 33 (Error Stuff) ∷ [], Sender (extended 0x15555550), by_8)
unfolding mac_step unstuffed head arbitration_field crc_of bits_of frame_len
overridden_behind_rtr_of_an_extended_frame = refl

-- [End of the stuffed part] The CRC sequence of frame 009 ends with five dominant levels: a stuff bit follows, and then the CRC
-- delimiter. That of frame 001 ends with none.

stuff_bit_behind_the_check_sequence : drives_behind (standard 9) (take 38 part_009) ≡ ([], Recessive)
unfolding mac_step agrees crc_of frame_of frame_len bits_of unstuffed head arbitration_field mac_drives
stuff_bit_behind_the_check_sequence = refl

stuff_bit_behind_the_check_sequence_overridden : receiving (take 38 part_009 ++ codes "0") ≡ (at 38 (Error Stuff) ∷ [], Receiver, record fresh { rec = 1 })
unfolding mac_step agrees crc_of frame_of frame_len bits_of unstuffed head arbitration_field
stuff_bit_behind_the_check_sequence_overridden = refl

behind_the_last_stuff_bit : (run None idle (levels_of part_009)).phase ≡ CrcDelimiter (record { frame = standard 9; agrees = true })
unfolding mac_step agrees crc_of frame_of frame_len bits_of unstuffed head arbitration_field
behind_the_last_stuff_bit = refl

frame_009_received : receiving (part_009 ++ tail) ≡ (at 47 (Received (standard 9)) ∷ [], Receiver, fresh)
unfolding mac_step agrees crc_of frame_of frame_len bits_of unstuffed head arbitration_field
frame_009_received = refl

behind_a_check_sequence_without : (run None idle (levels_of part_001)).phase ≡ CrcDelimiter read_001
unfolding mac_step agrees crc_of frame_of frame_len bits_of unstuffed head arbitration_field
behind_a_check_sequence_without = refl
