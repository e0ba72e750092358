use Rattle.can_page.proofs.ReportLemmas.{report_told}
use Rattle.can_page.proofs.scenarios.run_onto.Goals as goal

pub returns-in-Ok-run_scenario-clause-report : goal.returns-in-Ok-run_scenario-clause-report
returns-in-Ok-run_scenario-clause-report g c = λ _.
    report_told c.args.text.now _ _ c.in-Ok.scenario c.in-Ok.ensures.found c.requires.empty c.in-Ok-run_scenario.ensures.ok
