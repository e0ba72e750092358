use Rattle.std.proofs.Common.{take}
use Rattle.document_values.specs.Values.{ArePaired}
use Rattle.can_plan_text.specs.Worst.{IsOften}
use Rattle.can_plan_text.proofs.worst.level_sequences.Given as goal

abbrev pub invariant-loop-planned : goal.invariant-loop-planned
invariant-loop-planned l = ArePaired (IsOften l.long) (take l.planned-index l.level) l.sequences.items
