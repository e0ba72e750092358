use Rattle.std.proofs.Common.{◌≡◌, ◌-◌, take}
use Rattle.std.specs.Prelude.{fold, max}
use Rattle.can_plan.proofs.demand.blocking.Given as goal

abbrev pub invariant-loop-message : goal.invariant-loop-message
invariant-loop-message l = l.long ≡ fold (λ a m. max a (m.longest - 1)) 0 (take l.message-index l.messages)
