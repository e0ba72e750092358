use Rattle.std.proofs.Common.{◌≡◌, take}
use Rattle.can_plan_text.specs.Plans.{messages_of as messages_in}
use Rattle.can_plan_text.proofs.analysis.messages_of.Given as goal

abbrev pub invariant-loop-each : goal.invariant-loop-each
invariant-loop-each l = l.messages.items ≡ messages_in (take l.each-index l.planned)
