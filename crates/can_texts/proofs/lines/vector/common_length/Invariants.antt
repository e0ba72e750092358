use Rattle.std.proofs.Common.{◌≡◌, take}
use Rattle.can_texts.proofs.lines.vector.common_length.Given as goal

abbrev pub invariant-loop-place : goal.invariant-loop-place
invariant-loop-place l = take l.place l.digits ≡ take l.place l.others
