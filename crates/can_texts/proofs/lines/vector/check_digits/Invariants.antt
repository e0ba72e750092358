use Rattle.can_texts.proofs.DigitFronts.{HasLevels}
use Rattle.can_texts.proofs.lines.vector.check_digits.Given as goal

abbrev pub invariant-loop-place : goal.invariant-loop-place
invariant-loop-place l = HasLevels l.digits l.place
