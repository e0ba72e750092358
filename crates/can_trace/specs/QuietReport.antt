-- Scenarios of a quiet bus, and their reports. (docs/FORMATS.md, "`canbit run`"; docs/BUS.md, "A quiet bus")
use Rattle.std.specs.Prelude.{ℕ, ◌≡◌, List, [], ◌∷◌, All, map}
use Rattle.std.specs.List.{AllByRecursion}
use Rattle.std.specs.List.Sorted.{IsPermutation}
use Rattle.can_frame.specs.Parts.{Parts, IsFrame}
use Rattle.can_bus.specs.Quiet.{ascending, line_at}
use Rattle.can_scenario_text.specs.declared.scenario.Scenario.{Scenario}
use Rattle.can_scenario_text.specs.declared.scenario.PortPlan.{PortPlan}
use Rattle.can_trace.specs.OpenReport.{IsOpenScenario, all_frames, queues, quiet_port}
use Rattle.can_trace.specs.Report.{levels_until, report_text}

-- each frame of the port is offered at time 0
abbrev pub AreFirst : PortPlan → Type 0
AreFirst plan = All (λ timed. timed.time ≡ 0) plan.queue.items

-- a scenario of an open bus whose frames are all offered at time 0
pub record IsQuietScenario (s : Scenario) : Type 0 where
  pub is_open : IsOpenScenario s
  pub first : All AreFirst s.ports.items

-- the report of a quiet bus at whose ports these frames were pending, after this number of bit times: the levels of the
-- frames one after another, and at each port all frames, in the order of priority
abbrev pub quiet_report : ℕ → List (List Parts) → List ℕ
quiet_report bits waiting =
    let frames : List Parts = ascending (all_frames waiting) in
    report_text (levels_until (line_at frames) bits) (map (quiet_port frames) waiting)

-- ---- the order within a queue

-- at each port the same frames, in any order
abbrev pub AreReordered : (waiting others : List (List Parts)) → Type 0
AreReordered [] [] = Unit {0}
AreReordered [] (other ∷ others) = ⊥
AreReordered (queue ∷ waiting) [] = ⊥
AreReordered (queue ∷ waiting) (other ∷ others) = IsPermutation queue other × AreReordered waiting others

-- everything that is offered is a valid frame
abbrev pub HoldsFrames : Scenario → Type 0
HoldsFrames s = AllByRecursion (λ queue. All IsFrame queue) (queues s)

-- two quiet scenarios with the same number of bit times and the same frames at each port, in any order
pub record AreReorderings (s t : Scenario) : Type 0 where
  pub first : IsQuietScenario s
  pub second : IsQuietScenario t
  pub frames : HoldsFrames s × HoldsFrames t
  pub same : AreReordered (queues s) (queues t)
  pub bits : s.bits ≡ t.bits
