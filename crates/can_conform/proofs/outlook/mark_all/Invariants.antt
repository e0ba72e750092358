use Rattle.std.proofs.Common.{take}
use Rattle.can_conform.specs.Walks.{AreMarked, KeepsMarks}
use Rattle.can_conform.proofs.outlook.mark_all.Given as goal

-- those so far are marked
abbrev pub invariant-loop-one : goal.invariant-loop-one
invariant-loop-one g l = record {
  marked : AreMarked (take l.one-index l.list) l.time l.last l.marks;
  kept : KeepsMarks l.fn.marks l.marks;
}
