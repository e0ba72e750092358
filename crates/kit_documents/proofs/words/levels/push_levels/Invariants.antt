use Rattle.std.proofs.Common.{◌≡◌, ◌+◌, ◌≤◌, ◌++◌, drop}
use Rattle.kit_documents.specs.LevelTokens.{levels_text, tokens_from}
use Rattle.kit_documents.proofs.words.levels.push_levels.Given as goal

abbrev pub invariant-loop-next : goal.invariant-loop-next
invariant-loop-next l = record {
  text : l.out.items ++ tokens_from l.before l.level l.count (drop l.next-index l.others) ≡ l.fn.out.items ++ levels_text l.fn.levels;
  few : l.count ≤ l.next-index + 1;
}
