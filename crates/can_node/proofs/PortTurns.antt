-- A port's run is its controller's, with the frames that wait in each bit time.
use Rattle.std.proofs.Common.{◌≡◌, List, [], ◌∷◌, refl, ◌∙◌, ap}
use Rattle.can_frame.specs.declared.level.Level.{Level}
use Rattle.can_mac.specs.Machine.{mac_step}
use Rattle.can_mac.proofs.Turns.{Turn, levels_of, turn_events}
use Rattle.can_node.proofs.OneFrame.{noted-mac}
use Rattle.can_node.specs.Ports.{PortState, waiting, port_event, port_step, port_events}

-- the bit times in which a port sees these levels
abbrev pub port_turns : PortState → List Level → List Turn
port_turns p [] = []
port_turns p (x ∷ levels) = record { waiting = waiting p.queue; seen = x } ∷ port_turns (port_step p x) levels

-- their levels are these
pub levels_of-port_turns : (p : PortState) (levels : List Level) → levels_of (port_turns p levels) ≡ levels
levels_of-port_turns p [] = refl
levels_of-port_turns p (x ∷ levels) = ap (λ l. x ∷ l) (levels_of-port_turns (port_step p x) levels)

-- a port's step is its controller's: queue and log change nothing at it
pub port_step-mac : (p : PortState) (x : Level) → (port_step p x).mac ≡ (mac_step p.mac (waiting p.queue) x).0
unfolding port_step
port_step-mac p x = noted-mac (port_event p x) _

-- and so are the events of its run
pub port_events-turns : (p : PortState) (levels : List Level) → port_events p levels ≡ turn_events p.mac (port_turns p levels)
unfolding port_events
port_events-turns p [] = refl
port_events-turns p (x ∷ levels) =
    let rest = port_turns (port_step p x) levels in
    ap (λ l. port_event p x ∷ l) (port_events-turns (port_step p x) levels ∙ ap (λ m. turn_events m rest) (port_step-mac p x))
