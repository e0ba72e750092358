use Rattle.std.proofs.Common.{◌≡◌, length, map, take}
use Rattle.can_frame.specs.Levels.{level_code}
use Rattle.can_bus.proofs.wire.lanes.Given as goal

abbrev pub invariant-loop-place : goal.invariant-loop-place
invariant-loop-place l = record {
  done : take l.place l.bits ≡ map level_code (take l.place l.levels);
  whole : length l.bits ≡ 32;
}
