use Rattle.std.proofs.Common.{◌≡◌, ◌≤◌, take}
use Rattle.can_plan_text.specs.Worst.{load_of, most_long}
use Rattle.can_plan_text.proofs.period.load.Given as goal

abbrev pub invariant-loop-planned : goal.invariant-loop-planned
invariant-loop-planned l = (l.total ≡ load_of (take l.planned-index l.level) l.long) × (l.total ≤ most_long)
