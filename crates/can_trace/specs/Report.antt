-- The report of a scenario: the levels that the bus records, and the state and log of each port after the run. (docs/FORMATS.md,
-- "`canbit run`")
use Rattle.std.specs.Prelude.{ℕ, zero, suc, ◌+◌, Bool, if◌then◌else◌, List, [], ◌∷◌, ◌++◌, length, map, codes, decimal}
use Rattle.std.specs.List.{flat_map}
use Rattle.can_frame.specs.declared.level.Level.{Level}
use Rattle.can_frame.specs.Parts.{Parts}
use Rattle.can_frame.specs.Text.{frame_text}
use Rattle.can_fault.specs.declared.state.State.{State}
use Rattle.can_fault.specs.Counters.{state_of}
use Rattle.can_fault.specs.Words.{state_word}
use Rattle.can_mac.specs.State.{idle, joining}
use Rattle.can_node.specs.declared.entry.Entry.{Entry}
use Rattle.can_node.specs.Ports.{PortState, fresh_port, port_holding, all_offered}
use Rattle.can_terms.specs.declared.hit.Hit.{Hit}
use Rattle.can_bus.specs.Offers.{played, played_level}
use Rattle.can_bus.specs.Run.{BusState, bus_level, bus_run, new_bus}
use Rattle.can_frame.specs.Levels.{digit_of}
use Rattle.can_stream.specs.Lines.{line_end}
use Rattle.can_trace.specs.ScenarioOffers.{scenario_offers}
use Rattle.can_scenario_text.specs.declared.scenario.Scenario.{Scenario}
use Rattle.can_scenario_text.specs.declared.scenario.PortPlan.{PortPlan}

-- ---- the run

-- A port as it is created: its queue has space for each frame that it is offered, and it asks for its overload frames.
abbrev pub made_port : PortPlan → PortState
made_port plan =
    port_holding plan.overloads
    (fresh_port (if plan.joins then joining else idle) (length plan.queue.items) plan.log_room)

-- the bus of the ports as they are created
abbrev pub made_bus : Scenario → BusState
made_bus s = new_bus (map made_port s.ports.items)

-- the frames that a port is offered, in the order of its queue
abbrev pub frames_of_queue : PortPlan → List Parts
frames_of_queue plan = map (λ timed. timed.frame) plan.queue.items

-- the port with all its frames pending
abbrev pub waiting_port : PortPlan → PortState
waiting_port plan = all_offered (frames_of_queue plan) (made_port plan)

-- the bus whose ports have all their frames pending
abbrev pub waiting_bus : Scenario → BusState
waiting_bus s = new_bus (map waiting_port s.ports.items)

-- The bus at the end of the run. Without injected bit errors each frame is offered before its bit time. With them all frames,
-- which in a document then have time 0, are pending at the beginning of the run.
abbrev pub ended_with : List Hit → Scenario → BusState
ended_with [] s = played (scenario_offers s) s.bits (made_bus s)
ended_with (hit ∷ hits) s = bus_run (hit ∷ hits) s.bits (waiting_bus s)

-- the bus at the end of a scenario's run
abbrev pub ended_bus : Scenario → BusState
ended_bus s = ended_with s.hits.items s

-- the level that is recorded at time t
abbrev pub level_by : List Hit → Scenario → ℕ → Level
level_by [] s t = played_level (scenario_offers s) t (made_bus s)
level_by (hit ∷ hits) s t = bus_level (hit ∷ hits) t (waiting_bus s)

-- the levels at the first n times, 0 to n - 1
abbrev pub levels_until : (ℕ → Level) → ℕ → List Level
levels_until level zero = []
levels_until level (suc n) = levels_until level n ++ level n ∷ []

-- the recorded levels
abbrev pub recorded_levels : Scenario → List Level
recorded_levels s = levels_until (level_by s.hits.items s) s.bits

-- ---- the text

-- the report of a port
pub record PortReport : Type 0 where
  pub state : State
  pub tec : ℕ
  pub rec : ℕ
  pub missed : ℕ
  pub log : List Entry

-- the report of a port in this state
abbrev pub reported : PortState → PortReport
reported p = record {
  state = state_of p.mac.counters;
  tec = p.mac.counters.tec;
  rec = p.mac.counters.rec;
  missed = p.missed;
  log = p.log;
}

-- `port 0 active tec 0 rec 0 missed 0`
unfoldable pub port_line : ℕ → PortReport → List ℕ
port_line number p =
    codes "port " ++ (decimal number ++ (codes " " ++ (state_word p.state ++ (codes " tec " ++ (decimal p.tec
    ++ (codes " rec " ++ (decimal p.rec ++ (codes " missed " ++ (decimal p.missed ++ line_end)))))))))

abbrev pub mark_word : Bool → List ℕ
mark_word sent = if sent then codes "sent " else codes "took "

-- `  sent S 000 D 0`
unfoldable pub entry_line : Entry → List ℕ
entry_line entry = codes "  " ++ (mark_word entry.sent ++ (frame_text entry.frame ++ line_end))

-- the lines of a port: its own, and one for each entry of its log
abbrev pub port_lines : ℕ → PortReport → List ℕ
port_lines number p = port_line number p ++ flat_map entry_line p.log

-- the lines of all ports, the first of which has this number
abbrev pub ports_lines : ℕ → List PortReport → List ℕ
ports_lines number [] = []
ports_lines number (p ∷ ports) = port_lines number p ++ ports_lines (number + 1) ports

-- `bits 103`
unfoldable pub bits_line : ℕ → List ℕ
bits_line bits = codes "bits " ++ (decimal bits ++ line_end)

-- the levels as digits, in one line
unfoldable pub levels_line : List Level → List ℕ
levels_line levels = map digit_of levels ++ line_end

-- the whole report
unfoldable pub report_text : List Level → List PortReport → List ℕ
report_text levels ports = bits_line (length levels) ++ (levels_line levels ++ ports_lines 0 ports)

-- the report of a scenario
abbrev pub report : Scenario → List ℕ
report s = report_text (recorded_levels s) (map reported (ended_bus s).ports)

-- the report of a run at whose beginning all frames are pending
abbrev pub waiting_report : Scenario → List ℕ
waiting_report s =
    report_text (levels_until (λ t. bus_level s.hits.items t (waiting_bus s)) s.bits)
    (map reported (bus_run s.hits.items s.bits (waiting_bus s)).ports)
