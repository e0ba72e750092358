use Rattle.std.proofs.Common.{◌≡◌, drop, length}
use Rattle.canhold_commands.specs.Marks.{with_marks}
use Rattle.canhold_commands.proofs.judging.mark.Given as goal

abbrev pub invariant-loop-told : goal.invariant-loop-told
invariant-loop-told l = record {
  rest : with_marks (drop l.told-index l.transcripts) l.marks ≡ with_marks l.transcripts l.fn.marks;
  long : length l.marks ≡ length l.fn.marks;
}
