use Rattle.std.proofs.Common.{◌≡◌, ap, rules, Err}
use Rattle.can_plan_text.specs.declared.field.PlanField.{PlanField}
use Rattle.can_plan_text.specs.declared.fault.PlanFault.{PlanFault}
use Rattle.can_plan_text.specs.declared.fault.PlanFault.TheVariants as plan
use Rattle.can_plan_text.specs.declared.canplan_fault.CanplanFault.TheVariants.{Field}
use Rattle.can_plan_text.specs.Status.{plan_fault_of}
use Rattle.can_plan_text.proofs.answering.answer_document.Goals as goal

-- a reported field is the document's
field-of : (fault : PlanFault) (wrong : PlanField) → plan_fault_of fault ≡ Field wrong → fault ≡ plan.Field wrong
field-of (plan.Field other) wrong is = ap plan.Field (cc)
field-of plan.Memory wrong is = absurd (cc)

pub returns-in_err-answer-clause-field : goal.returns-in_err-answer-clause-field
returns-in_err-answer-clause-field g c = λ wrong is.
    let at : c.in_err-answer.field-0.0 ≡ plan.Field wrong = field-of c.in_err-answer.field-0.0 wrong (search rules) in
    let first = c.in_err-answer.ensures.wrong wrong (ap Err at) in
    search (rules, first)
