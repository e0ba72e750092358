use Rattle.std.proofs.Common.{◌≡◌, ◌++◌, ◌+◌, ◌*◌, take, length}
use Rattle.std.specs.List.{flat_map}
use Rattle.can_frame.specs.Levels.{bits_of}
use Rattle.can_wire.proofs.layout.push_bytes.Given as goal

abbrev pub invariant-loop-byte : goal.invariant-loop-byte
invariant-loop-byte g l = record {
  levels : g.B.FrameBits.levels l.levels ≡ g.B.FrameBits.levels l.fn.levels ++ flat_map (bits_of 8) (take l.byte-index l.bytes);
  len : length (g.B.FrameBits.levels l.levels) ≡ length (g.B.FrameBits.levels l.fn.levels) + 8 * l.byte-index;
}
