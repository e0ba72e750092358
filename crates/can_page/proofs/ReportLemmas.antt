-- The contents of a writer after a report, if it was empty before.
use Rattle.std.proofs.Common.{◌≡◌, ℕ, Option, Some, None, IfSome, List, [], subst}
use Rattle.std.specs.Io.KnownBytes.{Appends}
use Rattle.can_trace.specs.Report.{report}
use Rattle.can_scenario_text.specs.Scenarios.{IsScenarioText}
use Rattle.can_scenario_text.specs.declared.scenario.Scenario.{Scenario}

pub report_told : (text : List ℕ) (held holds : Option (List ℕ)) (s : Scenario) → IsScenarioText text s → held ≡ Some [] → Appends held holds (report s) →
    IfSome holds (λ bytes. (t : Scenario) × (IsScenarioText text t × (bytes ≡ report t)))
report_told text held None s says empty appends = absurd (subst (λ h. Appends h None (report s)) empty appends)
report_told text held (Some bytes) s says empty appends =
    let are : bytes ≡ report s = subst (λ h. Appends h (Some bytes) (report s)) empty appends in
    (s, (says, are))
