-- The encoding of a frame on the bus. (Bosch CAN 2.0 part B, section 3.2)
use Rattle.std.specs.Prelude.{◌≡◌, if◌then◌else◌, List, [], ◌∷◌, ◌++◌}
use Rattle.std.specs.List.{flat_map}
use Rattle.can_frame.specs.declared.level.Level.{Level}
use Rattle.can_frame.specs.declared.level.Level.TheVariants.{Dominant, Recessive}
use Rattle.can_frame.specs.Levels.{bits_of}
use Rattle.can_frame.specs.Parts.{Parts}
use Rattle.can_frame.specs.Arbitration.{field_with}
use Rattle.can_wire.specs.Crc.{IsCrc, crc_of}
use Rattle.can_wire.specs.Stuffing.{Stuffs, stuffed}

-- the reserved bits: r0, or r1 and r0
abbrev pub reserved_with : Level → Level → Parts → List Level
reserved_with r1 r0 f = if f.id.extended then r1 ∷ r0 ∷ [] else r0 ∷ []

-- the reserved bits as they are sent: dominant
abbrev pub reserved : Parts → List Level
reserved f = reserved_with Dominant Dominant f

-- the data length code and the data bytes, each with the highest bit first
abbrev pub data_field : Parts → List Level
data_field f = bits_of 4 f.dlc ++ flat_map (bits_of 8) f.bytes

-- the unstuffed levels from the start of frame to the end of the data, with these levels of SRR, r1 and r0:
-- SOF, the arbitration field (IDE bit included), the reserved bits, the data length code and the data
abbrev pub head_with : (srr r1 r0 : Level) → Parts → List Level
head_with srr r1 r0 f = Dominant ∷ (field_with srr f ++ (reserved_with r1 r0 f ++ data_field f))

-- these levels as they are sent
unfoldable pub head : Parts → List Level
head f = head_with Recessive Dominant Dominant f

-- the ten levels after the stuffed part: CRC delimiter, ACK slot, ACK delimiter, and seven levels of end of
-- frame
abbrev pub tail : Level → Level → List Level
tail ack last = Recessive ∷ ack ∷ Recessive ∷ Recessive ∷ Recessive ∷ Recessive ∷ Recessive ∷ Recessive ∷ Recessive ∷ last ∷ []

-- w encodes a frame whose levels up to the end of the data are u: u and its CRC sequence, stuffed, then the
-- tail
pub record IsSpelling (u : List Level) (ack last : Level) (w : List Level) : Type 0 where
  pub check : List Level
  pub is_check : IsCrc u check
  pub stuffed : List Level
  pub is_stuffed : Stuffs (u ++ check) stuffed
  pub whole : w ≡ stuffed ++ tail ack last

-- the unstuffed levels of a frame, from the start of frame to the end of the CRC sequence
unfoldable pub unstuffed : Parts → List Level
unstuffed f = head f ++ crc_of (head f)

-- the stuffed part of a frame: from the start of frame to the end of the CRC sequence, with stuff bits
unfoldable pub stuffed_part : Parts → List Level
stuffed_part f = stuffed (unstuffed f)

-- the levels on the bus of a frame that a receiver acknowledges
abbrev pub wire : Parts → List Level
wire f = stuffed_part f ++ tail Dominant Recessive

-- the levels of a frame as its transmitter drives them: the ACK slot is recessive
abbrev pub driven : Parts → List Level
driven f = stuffed_part f ++ tail Recessive Recessive
