use Rattle.std.proofs.Common.{◌≡◌, ◌*◌, ◌<◌, ◌^◌}
use Rattle.can_frame.specs.Levels.{bits_of}
use Rattle.can_wire.specs.Crc.{crc_of}
use Rattle.can_wire.proofs.crc_places.crc_of_number.Given as goal

-- the CRC sequence of the bytes that have been taken, the lowest of the number
abbrev pub invariant-loop-place : goal.invariant-loop-place
invariant-loop-place l = record {
  range : l.check < 2 ^ 15;
  check : bits_of 15 l.check ≡ crc_of (bits_of (8 * l.place) l.number);
}
