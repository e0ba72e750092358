-- The scenario of a message's worst case, for the document of a network and the name of the message. (docs/PLANNING.md,
-- "The worst case")
use Rattle.std.specs.Prelude.{ℕ, ◌≡◌, List, Some, slice_get}
use Rattle.can_frame.specs.Arbitration.{arbitration_field}
use Rattle.can_frame.specs.Parts.{Parts}
use Rattle.can_plan_text.specs.declared.fault.PlanFault.{PlanFault}
use Rattle.can_plan_text.specs.declared.fault.PlanFault.TheVariants as refused
use Rattle.can_plan_text.specs.declared.plan.Plan.{Plan}
use Rattle.can_plan_text.specs.declared.plan.Planned.{Planned}
use Rattle.can_plan_text.specs.Plans.{IsHeadText, IsPlanText}
use Rattle.can_plan_text.specs.declared.worst_fault.WorstFault.{WorstFault}
use Rattle.can_plan_text.specs.declared.worst_fault.WorstFault.TheVariants.{Field, Memory}
use Rattle.can_plan_text.specs.declared.case.WorstCase.{WorstCase}
use Rattle.can_plan_text.specs.Scenario.{scenario_text}
use Rattle.can_plan_text.specs.Worst.{IsTooLong, IsWorstCase}

-- The name of a message: the text of a frame before the space and the DLC. The message's frames have the arbitration field of
-- this frame.
abbrev pub Names : List ℕ → Planned → Type 0
Names name p = (f : Parts) × IsHeadText name f × (arbitration_field f ≡ p.message.field)

-- the message at this place has the name
abbrev pub IsNamedAt : List ℕ → List Planned → ℕ → Type 0
IsNamedAt name planned place = (p : Planned) × (slice_get planned place ≡ Some p) × Names name p

-- no message has the name
abbrev pub IsUnnamed : List ℕ → List Planned → Type 0
IsUnnamed name planned = (n : ℕ) (p : Planned) → slice_get planned n ≡ Some p → Names name p → ⊥

-- the scenario of the worst case of the message with this name, in the network that the document describes
pub record IsTimeline (document name output : List ℕ) : Type 0 where
  pub plan : Plan
  pub said : IsPlanText document plan
  pub place : ℕ
  pub named : IsNamedAt name plan.messages.items place
  pub worst : WorstCase
  pub is : IsWorstCase plan.messages.items place worst
  pub written : output ≡ scenario_text worst

-- no message of the network has the name
pub record IsUnknown (document name : List ℕ) : Type 0 where
  pub plan : Plan
  pub said : IsPlanText document plan
  pub unnamed : IsUnnamed name plan.messages.items

-- no scenario is long enough for the worst case of the message
pub record IsUnending (document name : List ℕ) : Type 0 where
  pub plan : Plan
  pub said : IsPlanText document plan
  pub place : ℕ
  pub named : IsNamedAt name plan.messages.items place
  pub long : IsTooLong plan.messages.items place

-- why there is no scenario if a document is refused
abbrev pub fault_of : PlanFault → WorstFault
fault_of (refused.Field wrong) = Field wrong
fault_of refused.Memory = Memory
