-- The definitions computed on a few values that are known from elsewhere.
use Rattle.std.proofs.Common.{◌≡◌, ℕ, ◌-◌, List, [], ◌∷◌, ◌++◌, map, refl, false, true}
use Rattle.std.specs.Prelude.{codes}
use Rattle.can_frame.specs.declared.level.Level.{Level}
use Rattle.can_frame.specs.declared.level.Level.TheVariants.{Dominant, Recessive}
use Rattle.can_frame.specs.Levels.{level_of, bits_of}
use Rattle.can_frame.specs.Arbitration.{arbitration_field}
use Rattle.can_frame.specs.Parts.{Parts}
use Rattle.can_wire.specs.Crc.{crc_of}
use Rattle.can_wire.specs.Heard.{HeardParts, heard_head}
use Rattle.can_wire.specs.Stuffing.{stuffed}
use Rattle.can_wire.specs.Wire.{head, unstuffed, stuffed_part, driven}

-- the levels of a text of `0` and `1`
abbrev levels_of : List ℕ → List Level
levels_of text = map (λ c. level_of (c - 48)) text

one_bit : crc_of (Recessive ∷ []) ≡ bits_of 15 0x4599
unfolding crc_of bits_of
one_bit = refl

long_run : stuffed (levels_of (codes "0111111000001")) ≡ levels_of (codes "011111010000011")
unfolding stuffed
long_run = refl

-- the standard data frame with identifier 001 and no data
frame_001 : Parts
frame_001 = record { id = record { raw = 1; extended = false }; remote = false; dlc = 0; bytes = [] }

driven_001 : driven frame_001 ≡ levels_of (codes "00000100000101000001000100010000100111111111111")
unfolding stuffed_part unstuffed stuffed crc_of head arbitration_field bits_of frame_001
driven_001 = refl

-- `E 12345678 D 1 ff`
frame_extended : Parts
frame_extended = record { id = record { raw = 0x12345678; extended = true }; remote = false; dlc = 1; bytes = 0xff ∷ [] }

-- SOF and eleven bits of the identifier; SRR and IDE; eighteen bits of the identifier; RTR, r1 and r0; DLC and data
head_extended : head frame_extended ≡ levels_of (codes "010010001101" ++ codes "11" ++ codes "000101011001111000" ++ codes "000" ++ codes "000111111111")
unfolding head arbitration_field bits_of frame_extended
head_extended = refl

-- the same with a dominant SRR and a recessive r1
heard_extended : HeardParts
heard_extended = record { frame = frame_extended; srr = Dominant; r1 = Recessive; r0 = Dominant; acked = true; last = Recessive }

heard_head_extended : heard_head heard_extended ≡ levels_of (codes "010010001101" ++ codes "01" ++ codes "000101011001111000" ++ codes "010" ++ codes "000111111111")
unfolding heard_head bits_of frame_extended heard_extended
heard_head_extended = refl

-- `S 7ff R 2` with a recessive r0
heard_standard : HeardParts
heard_standard = record { frame = record { id = record { raw = 0x7ff; extended = false }; remote = true; dlc = 2; bytes = [] }; srr = Recessive; r1 = Dominant; r0 = Recessive; acked = true; last = Recessive }

-- SOF and identifier; RTR, IDE and r0; DLC
heard_head_standard : heard_head heard_standard ≡ levels_of (codes "011111111111" ++ codes "101" ++ codes "0010")
unfolding heard_head bits_of heard_standard
heard_head_standard = refl
