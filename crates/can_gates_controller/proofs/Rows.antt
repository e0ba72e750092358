-- Steps whose outcome is known.
use Rattle.std.proofs.Common.{◌≡◌, true, false, Some, None, refl}
use Rattle.can_frame.specs.declared.level.Level.{Level}
use Rattle.can_frame.specs.declared.level.Level.TheVariants.{Dominant, Recessive}
use Rattle.can_mac.specs.declared.phase.Phase.TheVariants.{Joining}
use Rattle.can_mac.specs.State.{idle, joining, starting}
use Rattle.can_mac.specs.Machine.{mac_step, holding}
use Rattle.can_gates_controller.specs.Steps.{ControllerStep, asked, state_behind, event_in, state_before}

-- a bit time in which this level is seen
abbrev passing : Level → ControllerStep
passing level = record { reset = false; integrating = false; enable = true; wish = None; waiting = None; level = level }

-- at a reset no other input has an effect
reset_idles : state_behind joining (record (passing Recessive) { reset = true }) ≡ idle
reset_idles = refl

reset_integrating : state_behind idle (record (passing Dominant) { reset = true; integrating = true }) ≡ joining
reset_integrating = refl

reset_tells_nothing : event_in idle (record (passing Dominant) { reset = true }) ≡ None
reset_tells_nothing = refl

-- without a bit time nothing changes, also with a request
rests : state_behind idle (record (passing Dominant) { enable = false; wish = Some 1 }) ≡ idle
rests = refl

-- one recessive level of eleven
counts_one : state_behind joining (passing Recessive) ≡ starting (Joining 1)
unfolding mac_step
counts_one = refl

counts_two : state_before joining (λ t. passing Recessive) 2 ≡ starting (Joining 2)
unfolding mac_step
counts_two = refl

-- two own overload frames may be requested, but not three
two_wishes : asked (Some 2) idle ≡ holding 2 idle
two_wishes = refl

three_wishes : asked (Some 3) (holding 1 idle) ≡ holding 1 idle
three_wishes = refl
