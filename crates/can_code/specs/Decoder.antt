-- What a decoder has received of a frame, level by level. (Bosch CAN 2.0 part B, sections 3.2.1 and 7.1)
use Rattle.std.specs.Prelude.{◌≡◌, ◌≢◌, ◌<◌, Bool, Some, List, [], ◌∷◌, ◌++◌, length}
use Rattle.can_frame.specs.declared.level.Level.{Level}
use Rattle.can_frame.specs.declared.level.Level.TheVariants.{Dominant}
use Rattle.can_code.specs.declared.front.Place.TheVariants.{CrcDelimiter}
use Rattle.can_wire.specs.Crc.{IsCrc}
use Rattle.can_wire.specs.Wire.{tail}
use Rattle.can_wire.specs.Heard.{ack_slot}
use Rattle.can_wire.specs.Layout.{check_of, head_of}
use Rattle.can_code.specs.Front.{FrontParts, first_front, next_place, heard_levels}

-- the front of the frame, and the levels received after its stuffed part
pub record DecoderParts : Type 0 where
  pub front : FrontParts
  pub behind : List Level

-- levels may follow a stuffed part: its CRC sequence is right, and they are a proper prefix of a tail
pub record StandsBehind (f : FrontParts) (behind : List Level) : Type 0 where
  pub agrees : IsCrc (head_of f.unstuffed) (check_of f.unstuffed)
  pub acked : Bool
  pub last : Level
  pub more : List Level
  pub missing : 0 < length more
  pub begins : behind ++ more ≡ tail (ack_slot acked) last

-- The decoder has received these levels: the start of frame, a part that makes the front, and, only if the stuffed part
-- has ended, levels after it. None has shown a fault, and the frame has not ended.
pub record HasHeard (d : DecoderParts) (levels : List Level) : Type 0 where
  pub part : List Level
  pub whole : levels ≡ Dominant ∷ (part ++ d.behind)
  pub front : heard_levels first_front part ≡ Some d.front
  pub behind : next_place d.front ≡ CrcDelimiter → StandsBehind d.front d.behind
  pub none : next_place d.front ≢ CrcDelimiter → d.behind ≡ []
