use Rattle.std.proofs.Common.{◌≡◌, take}
use Rattle.std.specs.Prelude.{fold, max}
use Rattle.can_plan.proofs.demand.widest.Given as goal

abbrev pub invariant-loop-message : goal.invariant-loop-message
invariant-loop-message l = l.wide ≡ fold (λ a m. max a m.longest) l.first (take l.message-index l.messages)
