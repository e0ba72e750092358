use Rattle.std.proofs.Common.{◌*◌, ◌/◌, ◌++◌, length, take}
use Rattle.can_frame.specs.Levels.{bits_of}
use Rattle.can_wire.specs.Crc.{IsCrc}
use Rattle.can_wire.proofs.crc.crc15.Given as goal

-- the CRC sequence of the levels so far
abbrev pub invariant-loop-octet : goal.invariant-loop-octet
invariant-loop-octet l = record {
  so_far : IsCrc (take (8 * l.octet-index) l.levels) (bits_of 15 l.run);
}

abbrev pub invariant-loop-level : goal.invariant-loop-level
invariant-loop-level l = record {
  so_far : IsCrc (take (length l.levels / 8 * 8) l.levels ++ take l.level-index l.rest) (bits_of 15 l.run);
}
