use Rattle.std.proofs.Common.{◌≡◌, ap, refl, rules, Err}
use Rattle.can_plan_text.specs.declared.field.PlanField.{PlanField}
use Rattle.can_plan_text.specs.declared.worst_fault.WorstFault.{WorstFault}
use Rattle.can_plan_text.specs.declared.worst_fault.WorstFault.TheVariants as worst
use Rattle.can_plan_text.specs.declared.canplan_fault.CanplanFault.TheVariants.{Field, MessageUnknown, TimelineTooLong}
use Rattle.can_plan_text.specs.Status.{worst_fault_of}
use Rattle.can_plan_text.proofs.drawing.write_timeline.Goals as goal

-- a reported fault is the one that was found
field-of : (fault : WorstFault) (wrong : PlanField) → worst_fault_of fault ≡ Field wrong → fault ≡ worst.Field wrong
field-of (worst.Field other) wrong is = ap worst.Field (cc)
field-of worst.Unknown wrong is = absurd (cc)
field-of worst.TooLong wrong is = absurd (cc)
field-of worst.Memory wrong is = absurd (cc)

unknown-of : (fault : WorstFault) → worst_fault_of fault ≡ MessageUnknown → fault ≡ worst.Unknown
unknown-of (worst.Field other) is = absurd (cc)
unknown-of worst.Unknown is = refl
unknown-of worst.TooLong is = absurd (cc)
unknown-of worst.Memory is = absurd (cc)

too_long-of : (fault : WorstFault) → worst_fault_of fault ≡ TimelineTooLong → fault ≡ worst.TooLong
too_long-of (worst.Field other) is = absurd (cc)
too_long-of worst.Unknown is = absurd (cc)
too_long-of worst.TooLong is = refl
too_long-of worst.Memory is = absurd (cc)

pub returns-in_err-scenario-clause-field : goal.returns-in_err-scenario-clause-field
returns-in_err-scenario-clause-field g c = λ wrong is.
    let at : c.in_err-scenario.field-0.0 ≡ worst.Field wrong = field-of c.in_err-scenario.field-0.0 wrong (search rules) in
    let first = c.in_err-scenario.ensures.wrong wrong (ap Err at) in
    search (rules, first)

pub returns-in_err-scenario-clause-unknown : goal.returns-in_err-scenario-clause-unknown
returns-in_err-scenario-clause-unknown g c = λ is.
    let at : c.in_err-scenario.field-0.0 ≡ worst.Unknown = unknown-of c.in_err-scenario.field-0.0 (search rules) in
    let first = c.in_err-scenario.ensures.unknown (ap Err at) in
    search (rules, first)

pub returns-in_err-scenario-clause-too_long : goal.returns-in_err-scenario-clause-too_long
returns-in_err-scenario-clause-too_long g c = λ is.
    let at : c.in_err-scenario.field-0.0 ≡ worst.TooLong = too_long-of c.in_err-scenario.field-0.0 (search rules) in
    let first = c.in_err-scenario.ensures.too_long (ap Err at) in
    search (rules, first)
