-- The words for the states of a node. (docs/FORMATS.md, "`canbit run`", and docs/CONFORMANCE.md)
use Rattle.std.specs.Prelude.{ℕ, List, codes}
use Rattle.can_fault.specs.declared.state.State.{State}
use Rattle.can_fault.specs.declared.state.State.TheVariants.{Active, Passive, BusOff}

abbrev pub state_word : State → List ℕ
state_word Active = codes "active"
state_word Passive = codes "passive"
state_word BusOff = codes "off"
