use Rattle.std.proofs.Common.{◌≡◌, ◌+◌, ◌++◌, length, drop}
use Rattle.can_code.specs.Front.{first_front}
use Rattle.can_fields.specs.Marks.{heard_to, marks_behind}
use Rattle.can_fields.proofs.mark.push_marks.Given as goal

-- the marks that are left complete what is written
abbrev pub invariant-loop-index : goal.invariant-loop-index
invariant-loop-index l = record {
  room : length l.marks.items ≡ length l.fn.marks.items + l.index;
  heard : (heard_to l.front (drop l.index l.rest)).unstuffed ≡ l.bits;
  told : l.marks.items ++ marks_behind l.bits l.front (drop l.index l.rest) ≡ l.fn.marks.items ++ marks_behind l.bits first_front l.rest;
}
