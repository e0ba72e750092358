use Rattle.std.proofs.Common.{rules, arith}
use Rattle.toml.specs.View.{view}
use Rattle.document_values.specs.Demands.{IsFirstUnmet}
use Rattle.can_plan_text.specs.Plans.{message_demands, SaysMessage}
use Rattle.document_values.proofs.ReadLists.{IsRead-more, unmet-next, met-all, said-all}
use Rattle.can_plan_text.proofs.messages.read_messages.Goals as goal

pub returns-in_err-read_message-clause-unmet : goal.returns-in_err-read_message-clause-unmet
returns-in_err-read_message-clause-unmet c = λ wrong told.
    let here : IsFirstUnmet wrong (message_demands c.args.rate c.loop-place.place (view c.index-tables-place.result)) = search rules in
    unmet-next (message_demands c.args.rate) (SaysMessage c.args.rate) c.args.tables.now c.loop-place.place _ c.index-tables-place.result wrong c.loop-place-test.true c.index-tables-place.is here c.loop-place.invariant

pub loop-place-preserved : goal.loop-place-preserved
loop-place-preserved c =
    rw c.in_ok-push.ensures.items (IsRead-more (message_demands c.args.rate) (SaysMessage c.args.rate) c.args.tables.now c.loop-place.place _ c.index-tables-place.result _ c.loop-place-test.true c.index-tables-place.is c.in_ok-read_message.ensures.met c.in_ok-read_message.ensures.said c.loop-place.invariant)

pub returns-clause-said : goal.returns-clause-said
returns-clause-said c = said-all (message_demands c.args.rate) (SaysMessage c.args.rate) c.args.tables.now c.loop-place.place _ (omega arith) c.loop-place.invariant

pub returns-clause-met : goal.returns-clause-met
returns-clause-met c = met-all (message_demands c.args.rate) (SaysMessage c.args.rate) c.args.tables.now c.loop-place.place _ (omega arith) c.loop-place.invariant
