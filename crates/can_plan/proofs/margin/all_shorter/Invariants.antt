use Rattle.std.proofs.Common.{◌≡◌, map, take}
use Rattle.can_plan.specs.Margins.{shorter}
use Rattle.can_plan.proofs.margin.all_shorter.Given as goal

abbrev pub invariant-loop-message : goal.invariant-loop-message
invariant-loop-message l = l.all.items ≡ map (shorter l.percent) (take l.message-index l.messages)
