-- The number of the state of a port in C. They are those of bindings/riddlesage.h.
use Rattle.std.specs.Prelude.{ℕ}
use Rattle.can_fault.specs.declared.state.State.{State}
use Rattle.can_fault.specs.declared.state.State.TheVariants.{Active, Passive, BusOff}

-- the number of a state of fault confinement (8)
abbrev pub state_code : State → ℕ
state_code Active = 0
state_code Passive = 1
state_code BusOff = 2
