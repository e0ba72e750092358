-- A controller over bit times in a row.
use Rattle.std.proofs.Common.{List, [], ◌∷◌, map, Option}
use Rattle.can_frame.specs.declared.level.Level.{Level}
use Rattle.can_frame.specs.Parts.{Parts}
use Rattle.can_terms.specs.declared.event.Event.{Event}
use Rattle.can_mac.specs.State.{MacState}
use Rattle.can_mac.specs.Machine.{mac_step}

-- a bit time: the frame that waits in it, and the level that is sampled
pub record Turn : Type 0 where
  pub waiting : Option Parts
  pub seen : Level

-- the levels of bit times
abbrev pub levels_of : List Turn → List Level
levels_of = map (λ t. t.seen)

-- the effect of a bit time on a controller, and its event
abbrev pub after_turn : MacState → Turn → MacState
after_turn m t = (mac_step m t.waiting t.seen).0

abbrev pub turn_event : MacState → Turn → Option Event
turn_event m t = (mac_step m t.waiting t.seen).1

-- the events of bit times
abbrev pub turn_events : MacState → List Turn → List (Option Event)
turn_events m [] = []
turn_events m (t ∷ turns) = turn_event m t ∷ turn_events (after_turn m t) turns
