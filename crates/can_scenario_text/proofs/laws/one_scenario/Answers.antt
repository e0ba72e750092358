use Rattle.can_stream.specs.declared.field.Field.TheVariants.{Document}
use Rattle.document_values.proofs.OneRefusal.{no-wrong, one-wrong}
use Rattle.can_scenario_text.specs.Scenarios.{scenario_demands}
use Rattle.can_scenario_text.proofs.OneScenario.{one-scenario}
use Rattle.can_scenario_text.proofs.laws.one_scenario.Goals as goal

pub returns-clause-scenario : goal.returns-clause-scenario
returns-clause-scenario c = one-scenario

pub returns-clause-no_field : goal.returns-clause-no_field
returns-clause-no_field c = λ bytes s wrong says. no-wrong Document scenario_demands bytes says.0 wrong says.1 says.2.met

pub returns-clause-one_field : goal.returns-clause-one_field
returns-clause-one_field c = λ bytes. one-wrong Document scenario_demands bytes
