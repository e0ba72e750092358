use Rattle.std.proofs.Common.{◌≡◌, ◌+◌, ◌++◌, length, take}
use Rattle.can_fields.specs.Marks.{tail_marks}
use Rattle.can_fields.proofs.mark.push_tail.Given as goal

-- this number of marks of the ten are written
abbrev pub invariant-loop-place : goal.invariant-loop-place
invariant-loop-place l = record {
  items : l.marks.items ≡ l.fn.marks.items ++ take l.place tail_marks;
  room : length l.marks.items ≡ length l.fn.marks.items + l.place;
}
