use Rattle.document_values.proofs.OneRefusal.{no-wrong, one-wrong}
use Rattle.can_plan_text.specs.Plans.{plan_demands}
use Rattle.can_plan_text.specs.declared.field.PlanField.TheVariants.{Document}
use Rattle.can_plan_text.proofs.laws.one_plan_field.Goals as goal

pub returns-clause-no_field : goal.returns-clause-no_field
returns-clause-no_field c = λ bytes plan wrong says. no-wrong Document plan_demands bytes says.0 wrong says.1 says.2.met

pub returns-clause-one_field : goal.returns-clause-one_field
returns-clause-one_field c = λ bytes. one-wrong Document plan_demands bytes
