use Rattle.std.proofs.Common.{◌≡◌, map, take}
use Rattle.kit_documents.specs.Cases.{tester_level}
use Rattle.kit_documents.proofs.cases.tester.forced_tester.Given as goal

abbrev pub invariant-loop-level : goal.invariant-loop-level
invariant-loop-level l = l.does.items ≡ map tester_level (take l.level-index l.levels)
