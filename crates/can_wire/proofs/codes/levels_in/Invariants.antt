use Rattle.std.proofs.Common.{◌≡◌, length, take}
use Rattle.can_frame.specs.Levels.{levels_of_codes}
use Rattle.can_wire.proofs.codes.levels_in.Given as goal

abbrev pub invariant-loop-code : goal.invariant-loop-code
invariant-loop-code l = record {
  items : l.levels.items ≡ levels_of_codes (take l.code-index l.codes);
  len : length l.levels.items ≡ l.code-index;
}
