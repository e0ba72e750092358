-- Two quiet buses with the same frames. (docs/BUS.md, "A quiet bus")
use Rattle.std.specs.Prelude.{ℕ, ◌≡◌, List, All, map, slice_get, Some}
use Rattle.std.specs.List.Sorted.{IsPermutation}
use Rattle.can_frame.specs.Parts.{Parts}
use Rattle.can_node.specs.Ports.{PortState, IsPort}
use Rattle.can_bus.specs.Run.{BusState}
use Rattle.can_bus.specs.Quiet.{IsQuiet, queued}

-- a quiet bus of ports
pub record IsQuietBus (bus : BusState) : Type 0 where
  pub ports : All IsPort bus.ports
  pub quiet : IsQuiet bus.ports

-- two quiet buses with the same waiting frames; they may differ in the number and order of ports, in which port has which frame, and in
-- the order of queueing
pub record AreAlike (one other : BusState) : Type 0 where
  pub first : IsQuietBus one
  pub second : IsQuietBus other
  pub frames : IsPermutation (queued one.ports) (queued other.ports)

-- the frames in the log of a port, without their marks
abbrev pub frames_logged : PortState → List Parts
frames_logged p = map (λ entry. entry.frame) p.log

-- every log of one bus lists the same frames as every log of the other, in the same order
abbrev pub LogsAgree : BusState → BusState → Type 0
LogsAgree one other =
    (m n : ℕ) (p q : PortState) → slice_get one.ports m ≡ Some p → slice_get other.ports n ≡ Some q
    → frames_logged p ≡ frames_logged q
