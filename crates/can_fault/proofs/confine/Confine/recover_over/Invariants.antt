use Rattle.std.proofs.Common.{take}
use Rattle.can_fault.proofs.RecoveryLemmas.{IsWaiting}
use Rattle.can_fault.proofs.confine.Confine.recover_over.Given as goal

-- the levels so far don't end bus off
abbrev pub invariant-loop-index : goal.invariant-loop-index
invariant-loop-index l = IsWaiting l.fn.self (take l.index l.levels) l.self
