use Rattle.can_plan_text.specs.Plans.{message_demands, SaysMessage}
use Rattle.document_values.proofs.ReadLists.{IsRead}
use Rattle.can_plan_text.proofs.messages.read_messages.Given as goal

abbrev pub invariant-loop-place : goal.invariant-loop-place
invariant-loop-place l = IsRead (message_demands l.rate) (SaysMessage l.rate) l.tables l.place l.listed.items
