-- The recorded levels of a disturbed bus, computed for frames and hits whose levels are known from elsewhere.
use Rattle.std.proofs.Common.{◌≡◌, ℕ, ◌-◌, List, [], ◌∷◌, ◌++◌, map, take, replicate, refl, false}
use Rattle.std.specs.Prelude.{codes}
use Rattle.std.specs.List.{flat_map}
use Rattle.can_frame.specs.declared.level.Level.{Level}
use Rattle.can_frame.specs.declared.level.Level.TheVariants.{Dominant, Recessive}
use Rattle.can_frame.specs.Levels.{level_of, bits_of}
use Rattle.can_frame.specs.Arbitration.{arbitration_field}
use Rattle.can_frame.specs.Parts.{Parts}
use Rattle.can_wire.specs.Crc.{crc_of}
use Rattle.can_wire.specs.Stuffing.{stuffed}
use Rattle.can_wire.specs.Wire.{head, unstuffed, stuffed_part}
use Rattle.can_wire.specs.Layout.{frame_len}
use Rattle.can_terms.specs.declared.hit.Hit.TheVariants.{In}
use Rattle.can_bus.specs.Repair.{course_levels, repaired_course}
use Rattle.can_bus.specs.RepairedLine.{lateness}

-- the levels of a text of `0` and `1`
abbrev pub levels_of : List ℕ → List Level
levels_of text = map (λ c. level_of (c - 48)) text

-- `S 000 D 0` and `S 001 D 0`
abbrev pub frame_000 : Parts
frame_000 = record { id = record { raw = 0; extended = false }; remote = false; dlc = 0; bytes = [] }

abbrev pub frame_001 : Parts
frame_001 = record { id = record { raw = 1; extended = false }; remote = false; dlc = 0; bytes = [] }

-- `S 123 D 0`
abbrev pub frame_123 : Parts
frame_123 = record { id = record { raw = 0x123; extended = false }; remote = false; dlc = 0; bytes = [] }

abbrev zeros : ℕ → List Level
zeros n = replicate n Dominant

abbrev pub ones : ℕ → List Level
ones n = replicate n Recessive

-- frames on the wire
abbrev pub wire_000 : List Level
wire_000 = levels_of (codes "00000100000100000100000100000100000100001011111111")

abbrev pub wire_001 : List Level
wire_001 = levels_of (codes "00000100000101000001000100010000100111" ++ codes "011111111")

-- How late the receivers are.

-- at r0, a stuff bit, the highest bit of the data length code, CRC delimiter, ACK slot, ACK delimiter, and the sixth level of the end of frame
late_000 : map (lateness frame_000) (16 ∷ 17 ∷ 18 ∷ 40 ∷ 41 ∷ 42 ∷ 48 ∷ []) ≡ 6 ∷ 0 ∷ 6 ∷ 0 ∷ 0 ∷ 0 ∷ 0 ∷ []
unfolding lateness stuffed_part unstuffed stuffed crc_of head arbitration_field bits_of frame_len
late_000 = refl

-- at a stuff bit, and in the CRC sequence, up to its last bit
late_001 : map (lateness frame_001) (19 ∷ 22 ∷ 23 ∷ 31 ∷ 32 ∷ 33 ∷ 34 ∷ 35 ∷ 36 ∷ 37 ∷ []) ≡ 0 ∷ 6 ∷ 2 ∷ 6 ∷ 1 ∷ 4 ∷ 3 ∷ 2 ∷ 1 ∷ 0 ∷ []
unfolding lateness stuffed_part unstuffed stuffed crc_of head arbitration_field bits_of frame_len
late_001 = refl

-- at a recessive level after another
late_123 : lateness frame_123 21 ≡ 5
unfolding lateness stuffed_part unstuffed stuffed crc_of head arbitration_field bits_of frame_len
late_123 = refl

-- The levels of all attempts.

-- r0 is hit
abbrev hit_16 : List Level
hit_16 = levels_of (codes "0000010000010000") ++ (ones 1 ++ (zeros 12 ++ ones 11))

once : course_levels (repaired_course (frame_000 ∷ []) (In 0 16 ∷ [])) ≡ hit_16 ++ (wire_000 ++ ones 3)
unfolding repaired_course lateness stuffed_part unstuffed stuffed crc_of head arbitration_field bits_of frame_len
once = refl

-- a stuff bit is hit
at_stuff_bit : course_levels (repaired_course (frame_000 ∷ []) (In 0 17 ∷ [])) ≡ levels_of (codes "00000100000100000") ++ (zeros 7 ++ (ones 11 ++ (wire_000 ++ ones 3)))
unfolding repaired_course lateness stuffed_part unstuffed stuffed crc_of head arbitration_field bits_of frame_len
at_stuff_bit = refl

-- the sixth level of the end of frame is hit
in_end_of_frame : course_levels (repaired_course (frame_000 ∷ []) (In 0 48 ∷ [])) ≡ take 48 wire_000 ++ (zeros 7 ++ (ones 11 ++ (wire_000 ++ ones 3)))
unfolding repaired_course lateness stuffed_part unstuffed stuffed crc_of head arbitration_field bits_of frame_len
in_end_of_frame = refl

-- the second of two frames is hit, at a stuff bit
second_hit : course_levels (repaired_course (frame_000 ∷ frame_001 ∷ []) (In 1 19 ∷ []))
    ≡ wire_000 ++ (ones 3 ++ (take 19 wire_001 ++ (zeros 7 ++ (ones 11 ++ (wire_001 ++ ones 3)))))
unfolding repaired_course lateness stuffed_part unstuffed stuffed crc_of head arbitration_field bits_of frame_len
second_hit = refl

-- fifteen attempts are hit
abbrev numbers : List ℕ
numbers = 0 ∷ 1 ∷ 2 ∷ 3 ∷ 4 ∷ 5 ∷ 6 ∷ 7 ∷ 8 ∷ 9 ∷ 10 ∷ 11 ∷ 12 ∷ 13 ∷ 14 ∷ []

fifteen_times : course_levels (repaired_course (frame_000 ∷ []) (map (λ k. In k 16) numbers)) ≡ flat_map (λ k. hit_16) numbers ++ (wire_000 ++ ones 3)
unfolding repaired_course lateness stuffed_part unstuffed stuffed crc_of head arbitration_field bits_of frame_len
fifteen_times = refl
