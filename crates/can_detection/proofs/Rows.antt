-- Two acknowledged frames that are read as longer ones, unacknowledged, if one level is inverted. Two recessive levels,
-- of the intermission, follow the frame.
use Rattle.std.proofs.Common.{◌≡◌, ℕ, List, [], ◌∷◌, ◌++◌, refl, false}
use Rattle.can_frame.specs.declared.level.Level.TheVariants.{Recessive}
use Rattle.can_frame.specs.Levels.{bits_of}
use Rattle.can_frame.specs.Arbitration.{arbitration_field}
use Rattle.can_frame.specs.Parts.{Parts}
use Rattle.can_wire.specs.Crc.{crc_of}
use Rattle.can_wire.specs.Stuffing.{stuffed}
use Rattle.can_wire.specs.Wire.{head, unstuffed, stuffed_part, wire, driven}
use Rattle.can_detection.specs.WrongBit.{inverted_at}

-- a standard data frame
abbrev pub data_frame : ℕ → ℕ → List ℕ → Parts
data_frame raw dlc bytes = record { id = record { raw = raw; extended = false }; remote = false; dlc = dlc; bytes = bytes }

-- `S 065 D 1 b6`, and what is read
abbrev pub sent_065 : Parts
sent_065 = data_frame 0x065 1 (0xb6 ∷ [])

abbrev pub read_065 : Parts
read_065 = data_frame 0x065 1 (0xfd ∷ [])

pub row_065 : inverted_at 22 (wire sent_065) ++ Recessive ∷ Recessive ∷ [] ≡ driven read_065
unfolding stuffed_part unstuffed stuffed crc_of head arbitration_field bits_of
row_065 = refl

row_570 : inverted_at 21 (wire (data_frame 0x570 7 (0x85 ∷ 0x3d ∷ 0x8c ∷ 0xd5 ∷ 0xd3 ∷ 0x93 ∷ 0x4b ∷ []))) ++ Recessive ∷ Recessive ∷ []
    ≡ driven (data_frame 0x570 7 (0xca ∷ 0x7b ∷ 0x19 ∷ 0xab ∷ 0xa7 ∷ 0x26 ∷ 0x97 ∷ []))
unfolding stuffed_part unstuffed stuffed crc_of head arbitration_field bits_of
row_570 = refl
