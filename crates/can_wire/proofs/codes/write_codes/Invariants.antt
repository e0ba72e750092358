use Rattle.std.proofs.Common.{◌≡◌, length, take, drop, map}
use Rattle.can_frame.specs.Levels.{level_code}
use Rattle.can_wire.proofs.codes.write_codes.Given as goal

abbrev pub invariant-loop-place : goal.invariant-loop-place
invariant-loop-place l = record {
  front : take l.place l.codes ≡ map level_code (take l.place l.levels);
  behind : drop (length l.levels) l.codes ≡ drop (length l.levels) l.fn.codes;
  len : length l.codes ≡ length l.fn.codes;
}
