-- Which message has a name.
use Rattle.std.proofs.Common.{◌≡◌, ◌≢◌, ℕ, List, Option, Some, None, MatchOption, sym, ◌∙◌, ap}
use Rattle.std.specs.Prelude.{slice_get}
use Rattle.can_frame.specs.declared.level.Level.{Level}
use Rattle.can_frame.specs.Arbitration.{arbitration_field}
use Rattle.can_frame.specs.Parts.{Parts}
use Rattle.can_plan_text.specs.declared.plan.Planned.{Planned}
use Rattle.can_plan_text.specs.Plans.{IsHeadText}
use Rattle.can_plan_text.proofs.PlanParts.{one-head_text}
use Rattle.can_plan_text.specs.Timelines.{IsNamedAt, IsUnnamed}

-- the place of a field is that of the name
pub named-by : (name : List ℕ) (messages : List Planned) (f : Parts) (field : List Level) → IsHeadText name f → field ≡ arbitration_field f → (result : Option ℕ) →
    MatchOption result ((n : ℕ) (p : Planned) → slice_get messages n ≡ Some p → p.message.field ≢ field)
    (λ n. (p : Planned) × (slice_get messages n ≡ Some p) × (p.message.field ≡ field)) →
    MatchOption result (IsUnnamed name messages) (IsNamedAt name messages)
named-by name messages f field head is None none = λ n p at named.
    none n p at (sym named.2 ∙ ap arbitration_field (one-head_text name named.0 f named.1 head) ∙ sym is)
named-by name messages f field head is (Some n) found = (found.0, found.1, (f, head, sym is ∙ sym found.2))
