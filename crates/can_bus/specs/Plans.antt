-- How a quiet bus is made. (docs/BUS.md, "A quiet bus")
use Rattle.std.specs.Prelude.{ℕ, ◌≤◌, List, All, length}
use Rattle.std.specs.List.{flat_map}
use Rattle.can_frame.specs.Parts.{Parts, IsFrame}
use Rattle.can_mac.specs.State.{idle}
use Rattle.can_node.specs.Ports.{PortState, fresh_port, all_offered}
use Rattle.can_bus.specs.Quiet.{AreDifferent}

-- the plan of a port: its capacities, and the frames that it is offered, one after another
pub record PlannedPort : Type 0 where
  pub queue_room : ℕ
  pub log_room : ℕ
  pub frames : List Parts

-- the port as it is made, idle, and then offered its frames
abbrev pub ready_port : PlannedPort → PortState
ready_port plan = all_offered plan.frames (fresh_port idle plan.queue_room plan.log_room)

-- the frames of all ports
abbrev pub planned : List PlannedPort → List Parts
planned plans = flat_map (λ plan. plan.frames) plans

-- the queue has capacity for what the port is offered, and these frames are within their limits
pub record FitsQueue (plan : PlannedPort) : Type 0 where
  pub frames : All IsFrame plan.frames
  pub room : length plan.frames ≤ plan.queue_room

-- two to 64 ports; no two frames have the same arbitration field; each log has capacity for all frames
pub record IsQuietPlan (plans : List PlannedPort) : Type 0 where
  pub two : 2 ≤ length plans
  pub most : length plans ≤ 64
  pub different : AreDifferent (planned plans)
  pub room : All (λ plan. length (planned plans) ≤ plan.log_room) plans
