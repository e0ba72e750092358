use Rattle.std.proofs.Common.{◌≡◌, ◌<◌, ◌^◌, drop}
use Rattle.can_frame.specs.Levels.{number_from}
use Rattle.can_wire.proofs.crc_run.number_of.Given as goal

-- the levels that are left complete the number
abbrev pub invariant-loop-level : goal.invariant-loop-level
invariant-loop-level l = record {
  small : l.number < 2 ^ l.level-index;
  rest : number_from l.number (drop l.level-index l.levels) ≡ number_from 0 l.levels;
}
