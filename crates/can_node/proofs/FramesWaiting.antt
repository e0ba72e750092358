-- What waits at a port is a frame, while all in its queue are.
use Rattle.std.proofs.Common.{◌≡◌, ℕ, suc, zero, true, false, Option, Some, None, List, [], ◌∷◌, length, refl, subst, sym}
use Rattle.std.specs.Prelude.{nat_lt}
use Rattle.std.specs.List.{slice_get}
use Rattle.std.proofs.lemmas.Bool.{cond_both}
use Rattle.can_frame.specs.declared.level.Level.{Level}
use Rattle.can_frame.specs.Parts.{Parts, IsFrame}
use Rattle.can_terms.specs.declared.event.Event.{Event}
use Rattle.can_terms.specs.declared.event.Event.TheVariants.{Sent, Received, Lost, Error, Overload, WentOff, Recovered}
use Rattle.can_mac.specs.State.{IsFrameOrNone}
use Rattle.can_mac.proofs.HearingTurns.{AreTurns}
use Rattle.can_node.specs.declared.entry.Entry.{Entry}
use Rattle.can_node.specs.Ports.{PortState, goes_before, same_field, earlier, waiting, without, port_logging, port_noting, port_event, port_step}
use Rattle.can_node.proofs.PortTurns.{port_turns}

-- each of them is a frame
abbrev pub AreFrames : List Parts → Type 0
AreFrames [] = Unit {0}
AreFrames (f ∷ queue) = IsFrame f × AreFrames queue

-- the same, place by place
pub AreFrames-from : (queue : List Parts) → ((n : ℕ) (f : Parts) → slice_get queue n ≡ Some f → IsFrame f) → AreFrames queue
AreFrames-from [] each = tt
AreFrames-from (f ∷ queue) each = (each zero f refl, AreFrames-from queue (λ n g at. each (suc n) g at))

-- of two frames either is one
IsFrame-earlier : (f : Parts) (next : Option Parts) → IsFrame f → IsFrameOrNone next → IsFrame (earlier f next)
IsFrame-earlier f None is others = is
IsFrame-earlier f (Some g) is others = cond_both {A = Parts} (goes_before g f) g f IsFrame (λ e. others) (λ e. is)

-- so the one that waits is
pub IsWaiting-waiting : (queue : List Parts) → AreFrames queue → IsFrameOrNone (waiting queue)
unfolding waiting
IsWaiting-waiting [] are = tt
IsWaiting-waiting (f ∷ queue) are = IsFrame-earlier f (waiting queue) are.0 (IsWaiting-waiting queue are.1)

-- the others stay frames if one leaves the queue
pub AreFrames-without : (f : Parts) (queue : List Parts) → AreFrames queue → AreFrames (without f queue)
unfolding without
AreFrames-without f [] are = tt
AreFrames-without f (g ∷ queue) are =
    cond_both {A = List Parts} (same_field f g) queue (g ∷ without f queue) AreFrames (λ e. are.1) (λ e. (are.0, AreFrames-without f queue are.1))

-- the log changes no queue
port_logging-queue : (entry : Entry) (p : PortState) → (port_logging entry p).queue ≡ p.queue
port_logging-queue entry p = cond_both {A = PortState} (nat_lt (length p.log) p.log_room) _ _ (λ q. q.queue ≡ p.queue) (λ e. refl) (λ e. refl)

-- with any event of the bit time
AreFrames-port_noting : (event : Option Event) (p : PortState) → AreFrames p.queue → AreFrames (port_noting event p).queue
AreFrames-port_noting (Some (Sent f)) p are = subst AreFrames (sym (port_logging-queue (record { frame = f; sent = true }) (record p { queue = without f p.queue }))) (AreFrames-without f p.queue are)
AreFrames-port_noting (Some (Received f)) p are = subst AreFrames (sym (port_logging-queue (record { frame = f; sent = false }) p)) are
AreFrames-port_noting (Some Lost) p are = are
AreFrames-port_noting (Some (Error kind)) p are = are
AreFrames-port_noting (Some Overload) p are = are
AreFrames-port_noting (Some WentOff) p are = are
AreFrames-port_noting (Some Recovered) p are = are
AreFrames-port_noting None p are = are

-- and over a bit time
pub AreFrames-port_step : (p : PortState) (x : Level) → AreFrames p.queue → AreFrames (port_step p x).queue
unfolding port_step
AreFrames-port_step p x are = AreFrames-port_noting (port_event p x) (record p { mac = _ }) are

-- in each bit time of a port the frame that waits is one
pub AreTurns-port_turns : (p : PortState) (levels : List Level) → AreFrames p.queue → AreTurns (port_turns p levels)
AreTurns-port_turns p [] are = tt
AreTurns-port_turns p (x ∷ levels) are = (IsWaiting-waiting p.queue are, AreTurns-port_turns (port_step p x) levels (AreFrames-port_step p x are))
