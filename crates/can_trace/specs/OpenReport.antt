-- Scenarios of an open bus, to whose ports frames are offered while it runs, and their reports. (docs/FORMATS.md, "`canbit run`";
-- docs/BUS.md, "The schedule")
use Rattle.std.specs.Prelude.{ℕ, ◌≡◌, ◌≤◌, false, List, [], length, map, Some, slice_get}
use Rattle.std.specs.List.{flat_map}
use Rattle.can_frame.specs.Parts.{Parts}
use Rattle.can_fault.specs.declared.state.State.TheVariants.{Active}
use Rattle.can_bus.specs.Quiet.{AreDifferent, marked}
use Rattle.can_bus.specs.Timed.{TimedParts, frames_of, timed}
use Rattle.can_bus.specs.Schedule.{schedule, track_at}
use Rattle.can_scenario_text.specs.declared.scenario.Scenario.{Scenario}
use Rattle.can_scenario_text.specs.declared.scenario.PortPlan.{PortPlan}
use Rattle.can_trace.specs.Report.{PortReport, frames_of_queue, levels_until, report_text}
use Rattle.can_trace.specs.ScenarioOffers.{scenario_offers}

-- the frames of each port, and those of all
abbrev pub queues : Scenario → List (List Parts)
queues s = map frames_of_queue s.ports.items

-- the frames of all ports
abbrev pub all_frames : List (List Parts) → List Parts
all_frames queues = flat_map (λ queue. queue) queues

-- the port begins idle, asks for no overload frame, and its log has space for this number of entries
pub record IsReadyPlan (entries : ℕ) (plan : PortPlan) : Type 0 where
  pub idle : plan.joins ≡ false
  pub unasked : plan.overloads ≡ 0
  pub room : entries ≤ plan.log_room

-- two ports or more, no injected bit error, space in each log for all frames, and no two frames with the same arbitration field
pub record IsOpenScenario (s : Scenario) : Type 0 where
  pub two : 2 ≤ length s.ports.items
  pub undisturbed : s.hits.items ≡ []
  pub quiet : (n : ℕ) (plan : PortPlan) → slice_get s.ports.items n ≡ Some plan
      → IsReadyPlan (length (all_frames (queues s))) plan
  pub different : AreDifferent (all_frames (queues s))

-- which frame starts at which time, according to the schedule of the offers
abbrev pub scenario_starts : Scenario → List TimedParts
scenario_starts s = schedule (map timed (scenario_offers s))

-- the report of a port that has transmitted the frames of its own queue, and received all others
abbrev pub quiet_port : List Parts → List Parts → PortReport
quiet_port frames queue = record { state = Active; tec = 0; rec = 0; missed = 0; log = marked queue frames }

-- the report of an open bus with these starts, after this number of bit times, at whose ports these frames were offered: the
-- levels of the frames at their starts, and at each port all frames, in the order in which they start
abbrev pub open_report : ℕ → List TimedParts → List (List Parts) → List ℕ
open_report bits starts queues =
    report_text (levels_until (track_at starts) bits)
    (map (quiet_port (frames_of starts)) queues)
