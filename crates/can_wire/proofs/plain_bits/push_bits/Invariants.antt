use Rattle.std.proofs.Common.{◌≡◌, ◌++◌, ◌+◌, length}
use Rattle.can_frame.specs.Levels.{bits_of}
use Rattle.can_wire.proofs.plain_bits.push_bits.Given as goal

-- the bits that are missing complete the number
abbrev pub invariant-loop-place : goal.invariant-loop-place
invariant-loop-place l = record {
  items : l.levels.items ++ bits_of l.place l.value ≡ l.fn.levels.items ++ bits_of l.count l.value;
  len : length l.levels.items + l.place ≡ length l.fn.levels.items + l.count;
}
