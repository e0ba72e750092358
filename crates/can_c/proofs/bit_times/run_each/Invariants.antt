use Rattle.can_c.proofs.RunLemmas.{IsPassed}
use Rattle.can_c.proofs.bit_times.run_each.Given as goal

abbrev pub invariant-loop-place : goal.invariant-loop-place
invariant-loop-place l = IsPassed l.fn.port l.port l.levels l.drives l.events l.place
