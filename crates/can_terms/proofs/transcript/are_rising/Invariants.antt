use Rattle.std.specs.Prelude.{◌^◌, ◌-◌}
use Rattle.can_terms.proofs.RisingLemmas.{AreUpTo}
use Rattle.can_terms.proofs.transcript.are_rising.Given as goal

-- the times so far rise
abbrev pub invariant-loop-told : goal.invariant-loop-told
invariant-loop-told g l = AreUpTo l.list (2 ^ 32 - 1) l.told-index l.least
