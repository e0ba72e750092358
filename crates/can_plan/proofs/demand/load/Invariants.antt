use Rattle.std.proofs.Common.{◌≡◌, ◌≤◌, take}
use Rattle.can_plan.specs.Analysis.{load as load_of}
use Rattle.can_plan.proofs.demand.load.Given as goal

abbrev pub invariant-loop-message : goal.invariant-loop-message
invariant-loop-message l = (l.total ≡ load_of (take l.message-index l.messages) l.long) × (l.total ≤ l.limit)
