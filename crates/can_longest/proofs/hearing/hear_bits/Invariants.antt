use Rattle.std.proofs.Common.{◌≡◌, ◌+◌, ◌*◌, ◌<◌, ◌≤◌, ◌++◌, List, length}
use Rattle.can_frame.specs.declared.level.Level.{Level}
use Rattle.can_frame.specs.Levels.{bits_of}
use Rattle.can_wire.specs.Stuffing.{stuffed_from}
use Rattle.can_longest.proofs.hearing.hear_bits.Given as goal

abbrev pub invariant-loop-left : goal.invariant-loop-left
invariant-loop-left l = record {
  within : l.left ≤ l.count;
  some : l.left < l.count → 1 ≤ l.heard.run;
  short : l.heard.run < 5;
  room : l.heard.levels + 2 * l.left ≤ l.fn.before.levels + 2 * l.count;
  rest : (rest : List Level) → l.fn.before.levels + length (stuffed_from l.fn.before.last l.fn.before.run (bits_of l.count l.number ++ rest))
      ≡ l.heard.levels + length (stuffed_from l.heard.last l.heard.run (bits_of l.left l.number ++ rest));
}

abbrev pub decreases-loop-left : goal.decreases-loop-left
decreases-loop-left l = l.left
