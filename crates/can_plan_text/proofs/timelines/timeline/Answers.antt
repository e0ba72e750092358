use Rattle.std.proofs.Common.{◌≡◌, List, ap, rules, subst, Err}
use Rattle.can_plan_text.specs.declared.field.PlanField.{PlanField}
use Rattle.can_plan_text.specs.declared.fault.PlanFault.{PlanFault}
use Rattle.can_plan_text.specs.declared.fault.PlanFault.TheVariants as refused
use Rattle.can_plan_text.specs.declared.worst_fault.WorstFault.TheVariants.{Field}
use Rattle.can_plan_text.specs.declared.plan.Planned.{Planned}
use Rattle.can_plan_text.specs.Timelines.{IsNamedAt, fault_of}
use Rattle.can_plan_text.proofs.timelines.timeline.Goals as goal

-- a reported field is the document's
field-of : (fault : PlanFault) (wrong : PlanField) → fault_of fault ≡ Field wrong → fault ≡ refused.Field wrong
field-of (refused.Field other) wrong is = ap refused.Field (cc)
field-of refused.Memory wrong is = absurd (cc)

pub returns-in_err-plan-clause-wrong : goal.returns-in_err-plan-clause-wrong
returns-in_err-plan-clause-wrong c = λ wrong is.
    let at : c.in_err-plan.field-0.0 ≡ refused.Field wrong = field-of c.in_err-plan.field-0.0 wrong (search rules) in
    let first = c.in_err-plan.ensures.wrong wrong (ap Err at) in
    search (rules, first)

pub returns-in_default-clause-unknown : goal.returns-in_default-clause-unknown
returns-in_default-clause-unknown c = λ is. record { plan = c.in_ok-plan.plan; said = c.in_ok-plan.ensures.found; unnamed = search rules }

pub returns-in_err-worst-clause-too_long : goal.returns-in_err-worst-clause-too_long
returns-in_err-worst-clause-too_long c = λ is. record {
  plan = c.in_ok-plan.plan;
  said = c.in_ok-plan.ensures.found;
  place = c.in-Some.place;
  named = subst (λ (l : List Planned). IsNamedAt c.args.name.now l c.in-Some.place) c.deref.ensures.value c.in-Some.ensures;
  long = search rules;
}

pub returns-clause-found : goal.returns-clause-found
returns-clause-found c = record {
  plan = c.in_ok-plan.plan;
  said = c.in_ok-plan.ensures.found;
  place = c.in-Some.place;
  named = subst (λ (l : List Planned). IsNamedAt c.args.name.now l c.in-Some.place) c.deref.ensures.value c.in-Some.ensures;
  worst = c.in_ok-worst.worst;
  is = search rules;
  written = search rules;
}
