-- What a port claims of the levels that it saw is true.
use Rattle.std.proofs.Common.{◌≡◌, ℕ, ◌<◌, false, Option, List, [], subst, sym, ◌∙◌}
use Rattle.std.proofs.lemmas.Bool.{leb-false}
use Rattle.can_frame.specs.declared.level.Level.{Level}
use Rattle.can_terms.specs.declared.event.Event.{Event}
use Rattle.can_mac.specs.declared.phase.Phase.TheVariants.{Joining, Idle}
use Rattle.can_mac.specs.State.{MacState, IsMac, is_off_phase}
use Rattle.can_mac.proofs.Turns.{levels_of, turn_events}
use Rattle.can_mac.proofs.Hearing.{Knows}
use Rattle.can_mac.proofs.HearingTurns.{MacKnows}
use Rattle.can_node.specs.Ports.{PortState, port_events}
use Rattle.can_node.specs.Listening.{Took, Rested}
use Rattle.can_node.proofs.PortTurns.{port_turns, levels_of-port_turns, port_events-turns}
use Rattle.can_node.proofs.FramesWaiting.{AreFrames, AreTurns-port_turns}
use Rattle.can_node.proofs.Resting.{WaitsOnlyOff, turns_rested}
use Rattle.can_node.proofs.Taking.{turns_took}

-- what holds of each controller's turns holds of a port's run
of_turns : (P : List Level → List (Option Event) → Type 0) (p : PortState) (levels : List Level) → P (levels_of (port_turns p levels)) (turn_events p.mac (port_turns p levels)) → P levels (port_events p levels)
of_turns P p levels h =
    let turns = port_turns p levels in
    subst (λ l. P l (port_events p levels)) (levels_of-port_turns p levels) (subst (P (levels_of turns)) (sym (port_events-turns p levels)) h)

-- a controller that is on the bus has a TEC below 256, so it has seen nothing towards recovery
pub WaitsOnlyOff-from : (m : MacState) → IsMac m → WaitsOnlyOff m
WaitsOnlyOff-from m is = record { none = λ on. is.counters.no_occurrences (low on); empty = λ on. is.counters.empty_row (low on) }
  where
    low : is_off_phase m.phase ≡ false → m.counters.tec < 256
    low on = leb-false 256 m.counters.tec (sym is.off ∙ on)

-- between an error, an overload or going off and the next event of a frame the bus rests, from any port on
pub port_rested : (p : PortState) (levels : List Level) → IsMac p.mac → Rested levels (port_events p levels)
port_rested p levels is = of_turns Rested p levels (turns_rested (port_turns p levels) p.mac (WaitsOnlyOff-from p.mac is))

-- each frame that was received or sent is in the levels, from a port on that is in no frame
pub port_took : (p : PortState) (levels : List Level) → AreFrames p.queue → MacKnows p.mac [] → Took levels (port_events p levels)
port_took p levels are knows = of_turns Took p levels (turns_took (port_turns p levels) p.mac (AreTurns-port_turns p levels are) knows)

-- from an idle port on, and from one that joins
pub port_took-idle : (p : PortState) (levels : List Level) → AreFrames p.queue → p.mac.phase ≡ Idle → Took levels (port_events p levels)
port_took-idle p levels are idle = port_took p levels are (subst (λ phase. Knows phase p.mac.role []) (sym idle) tt)

pub port_took-joining : (p : PortState) (row : ℕ) (levels : List Level) → AreFrames p.queue → p.mac.phase ≡ Joining row → Took levels (port_events p levels)
port_took-joining p row levels are joining = port_took p levels are (subst (λ phase. Knows phase p.mac.role []) (sym joining) tt)
