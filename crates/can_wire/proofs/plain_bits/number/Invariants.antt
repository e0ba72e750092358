use Rattle.std.proofs.Common.{◌≡◌, ◌<◌, ◌^◌, drop}
use Rattle.can_frame.specs.Levels.{number_from}
use Rattle.can_wire.proofs.plain_bits.number.Given as goal

-- the levels that are missing complete the number
abbrev pub invariant-loop-level : goal.invariant-loop-level
invariant-loop-level l = record {
  small : l.value < 2 ^ l.level-index;
  rest : number_from l.value (drop l.level-index l.levels) ≡ number_from 0 l.levels;
}
