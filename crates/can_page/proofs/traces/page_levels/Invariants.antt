use Rattle.std.proofs.Common.{◌≡◌, length}
use Rattle.can_page.proofs.TraceLemmas.{IsRead}
use Rattle.can_page.proofs.traces.page_levels.Given as goal

abbrev pub invariant-loop-index : goal.invariant-loop-index
invariant-loop-index l = record {
  read : IsRead l.text l.levels l.written l.index;
  len : length l.levels ≡ length l.fn.levels;
  unplaced : l.place ≡ l.fn.place;
}
