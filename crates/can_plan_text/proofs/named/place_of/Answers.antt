use Rattle.std.proofs.Common.{rules}
use Rattle.can_plan_text.specs.Timelines.{IsUnnamed}
use Rattle.can_plan_text.proofs.NamedMessages.{named-by}
use Rattle.can_plan_text.proofs.named.place_of.Goals as goal

pub returns-in_err-head_of : goal.returns-in_err-head_of
returns-in_err-head_of c =
    let none : IsUnnamed c.args.name.now c.args.messages.now = λ n p at named. c.in_err-head_of.ensures.unmet (named.0, named.1) in
    search (rules, none)

pub returns : goal.returns
returns c =
    named-by c.args.name.now c.args.messages.now c.in_ok-head_of.field-0 c.key.result c.in_ok-head_of.ensures.said c.key.ensures c.place_of_field.result c.place_of_field.ensures
