use Rattle.can_plan_text.specs.Order.{HaveOwnNames}
use Rattle.can_plan_text.proofs.names.refuse_same_names.Given as goal

-- no two of the messages before this place have one name
abbrev pub invariant-loop-place : goal.invariant-loop-place
invariant-loop-place l = HaveOwnNames l.place l.listed
