use Rattle.std.proofs.Common.{◌≡◌, ◌<◌, ◌++◌, drop}
use Rattle.can_wire.specs.Stuffing.{stuffed_from, stuffed}
use Rattle.can_wire.proofs.stuffing.stuff.Given as goal

-- the levels that are left, stuffed, complete what is written
abbrev pub invariant-loop-level : goal.invariant-loop-level
invariant-loop-level l = record {
  short : l.run < 5;
  rest : l.stuffed.items ++ stuffed_from l.last l.run (drop l.level-index l.levels) ≡ stuffed l.levels;
}
