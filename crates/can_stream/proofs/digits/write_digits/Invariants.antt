use Rattle.std.proofs.Common.{◌≡◌, map, take}
use Rattle.can_frame.specs.Levels.{digit_of}
use Rattle.can_stream.proofs.digits.write_digits.Given as goal

abbrev pub invariant-loop-place : goal.invariant-loop-place
invariant-loop-place l = take l.place l.digits ≡ map digit_of (take l.place l.levels)
