-- The inputs of each step, and the controller's run with them.
use Rattle.std.specs.Prelude.{ℕ, zero, suc, nat_le, Bool, if◌then◌else◌, Option, Some, None}
use Rattle.can_frame.specs.declared.level.Level.{Level}
use Rattle.can_frame.specs.Parts.{Parts}
use Rattle.can_terms.specs.declared.event.Event.{Event}
use Rattle.can_mac.specs.State.{MacState, idle, joining}
use Rattle.can_mac.specs.Machine.{mac_step, holding}

-- one step: whether it is a reset, and the controller then joins; otherwise whether a bit time passes; the request for
-- own overload frames before it, if any; the pending frame; and the sampled level
pub record ControllerStep : Type 0 where
  pub reset : Bool
  pub integrating : Bool
  pub enable : Bool
  pub wish : Option ℕ
  pub waiting : Option Parts
  pub level : Level

-- a request for n own overload frames: more than two are refused, and change nothing
abbrev pub asked : Option ℕ → MacState → MacState
asked None m = m
asked (Some n) m = if nat_le n 2 then holding n m else m

-- the bit time of a step
abbrev pub step_time : MacState → ControllerStep → MacState × Option Event
step_time m s = mac_step (asked s.wish m) s.waiting s.level

-- the state after a step: after a reset an idle controller, or a joining one; the same if no bit time passes
abbrev pub state_behind : MacState → ControllerStep → MacState
state_behind m s = if s.reset then (if s.integrating then joining else idle) else (if s.enable then (step_time m s).0 else m)

-- the event of a step: none if no bit time passes
abbrev pub event_in : MacState → ControllerStep → Option Event
event_in m s = if s.reset then None else (if s.enable then (step_time m s).1 else None)

-- the state before step t
abbrev pub state_before : MacState → (ℕ → ControllerStep) → ℕ → MacState
state_before m steps zero = m
state_before m steps (suc t) = state_behind (state_before m steps t) (steps t)
