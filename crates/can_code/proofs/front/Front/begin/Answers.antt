use Rattle.std.proofs.Common.{arith}
use Rattle.can_code.proofs.FrontLemmas.{IsFront-first_front}
use Rattle.can_code.proofs.front.Front.begin.Goals as goal

pub invariant_of-result : goal.invariant_of-result
invariant_of-result g c = rw (c.start.ensures, c.begin.ensures) (IsFront-first_front, omega arith)
