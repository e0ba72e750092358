use Rattle.std.proofs.Common.{◌≡◌, take}
use Rattle.can_plan_text.specs.Details.{deadlines_of as deadlines_in}
use Rattle.can_plan_text.proofs.left.deadlines_of.Given as goal

abbrev pub invariant-loop-each : goal.invariant-loop-each
invariant-loop-each l = l.deadlines.items ≡ deadlines_in (take l.each-index l.planned)
