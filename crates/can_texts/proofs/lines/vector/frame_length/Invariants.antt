use Rattle.std.proofs.Common.{◌≢◌, ◌<◌, ℕ, take, drop}
use Rattle.can_texts.specs.Checked.{mark}
use Rattle.can_texts.proofs.lines.vector.frame_length.Given as goal

abbrev pub invariant-loop-place : goal.invariant-loop-place
invariant-loop-place l = (place : ℕ) → place < l.place → take 3 (drop place l.line) ≢ mark
