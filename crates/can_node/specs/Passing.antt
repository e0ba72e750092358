-- When a whole frame may pass a port in one step, and which ports take no part in it.
use Rattle.std.specs.Prelude.{ℕ, ◌≡◌, ◌⊎◌, true, Option}
use Rattle.can_frame.specs.Parts.{Parts}
use Rattle.can_code.specs.Front.{FrontParts}
use Rattle.can_fault.specs.Counters.{is_bus_off}
use Rattle.can_mac.specs.declared.phase.Phase.TheVariants.{StuffedPart}
use Rattle.can_mac.specs.State.{MacPhase}
use Rattle.can_mac.specs.Frames.{GoesBehind, IsOutOfStep, IsPoised, phase_at}
use Rattle.can_node.specs.Ports.{PortState, waiting}

-- f may pass the port in one step: f is the frame with which the port starts, or has higher priority, or the port starts with none
abbrev pub LetsPass : Parts → PortState → Type 0
LetsPass f p = (next : Option Parts) × (IsPoised p.mac (waiting p.queue) next × GoesBehind f next)

-- the port takes no part in a frame that begins: it is bus off, or an error passive receiver in an error frame
abbrev pub IsAside : PortState → Type 0
IsAside p = (is_bus_off p.mac.counters ≡ true) ⊎ IsOutOfStep p.mac

-- a controller in the stuffed part of a frame has received the first o levels of f
abbrev pub HasHeardFirst : Parts → ℕ → MacPhase → Type 0
HasHeardFirst f o phase = (front : FrontParts) → phase ≡ StuffedPart front → phase ≡ phase_at f o
