-- The run of a case: one port that shares the bus with the tester, bit time by bit time. (Bosch CAN 2.0 part B, section
-- 2; docs/CONFORMANCE.md)
use Rattle.std.specs.Prelude.{ℕ, zero, suc, ◌+◌, ◌==◌, nat_le, if◌then◌else◌, List, [], ◌∷◌, length, Option, Some, None, slice_get}
use Rattle.can_frame.specs.declared.level.Level.{Level}
use Rattle.can_frame.specs.declared.level.Level.TheVariants.{Dominant, Recessive}
use Rattle.can_terms.specs.declared.event.Event.{Event}
use Rattle.can_mac.specs.State.{MacState, idle, is_sender, joining, kind_of, place_of}
use Rattle.can_fault.specs.Counters.{state_of}
use Rattle.can_node.specs.Ports.{PortState, fresh_port, port_drives, port_event, port_holding, port_step, with_offer}
use Rattle.can_conform.specs.declared.moment.Moment.{Moment}
use Rattle.can_terms.specs.declared.script.Script.{Script}
use Rattle.can_terms.specs.declared.script.Start.{Start}
use Rattle.can_terms.specs.declared.script.Start.TheVariants as start
use Rattle.can_terms.specs.declared.script.TesterLevel.{TesterLevel}
use Rattle.can_terms.specs.declared.script.TesterLevel.TheVariants as tester
use Rattle.can_conform.specs.declared.standing.Standing.{Standing}
use Rattle.can_conform.specs.declared.standing.Rule.{Rule}
use Rattle.can_terms.specs.declared.timed.Timed.{Timed}
use Rattle.can_terms.specs.declared.transcript.Counters.{Counters}
use Rattle.can_terms.specs.declared.transcript.Ending.{Ending}
use Rattle.can_terms.specs.Cases.{seen_by}
use Rattle.can_conform.specs.Standings.{phase_rule, rule_after}

-- ---- one bit time

-- the level that a port sees with this tester
abbrev pub sees : TesterLevel → PortState → Level
sees x p = seen_by x (port_drives p)

-- the port after a bit time with this tester
abbrev pub met : TesterLevel → PortState → PortState
met x p = port_step p (sees x p)

-- the event that it reports for that bit time
abbrev pub told_event : TesterLevel → PortState → Option Event
told_event x p = port_event p (sees x p)

-- a request for n overload frames, at most two, in place of an earlier one; a greater n has no effect
abbrev pub wished : ℕ → PortState → PortState
wished n p = if nat_le n 2 then port_holding n p else p

-- all elements of time t are passed to the port, in their order
abbrev pub all_handed : {A : Type 0} → (A → PortState → PortState) → List (Timed A) → ℕ → PortState → PortState
all_handed hand [] t p = p
all_handed hand (x ∷ xs) t p = all_handed hand xs t (if x.time == t then hand x.told p else p)

-- the port in bit time t, after the frames and requests of that time
abbrev pub handed : Script → ℕ → PortState → PortState
handed s t p = all_handed wished s.holds.items t (all_handed with_offer s.offers.items t p)

-- ---- the run

-- the capacity of its transmit queue, in frames
abbrev pub queue_room : ℕ
queue_room = 256

-- the medium access control of a controller before bit time 0: idle on the bus, or joining it
abbrev pub mac_at_start : Start → MacState
mac_at_start start.Idle = idle
mac_at_start start.Joining = joining

-- the port before bit time 0: a new one, with a log without capacity
abbrev pub started : Start → PortState
started begin = fresh_port (mac_at_start begin) queue_room 0

-- the port after a bit time; after the last bit time of the case nothing happens
abbrev pub behind : Option TesterLevel → Script → ℕ → PortState → PortState
behind None s t p = p
behind (Some x) s t p = met x (handed s t p)

-- the port before bit time t
unfoldable pub before : Script → ℕ → PortState
before s zero = started s.start
before s (suc t) = behind (slice_get s.tester.items t) s t (before s t)

-- ---- what is done in a bit time

-- a port's error counters
abbrev pub counters_of : PortState → Counters
counters_of p = record { transmit = p.mac.counters.tec; receive = p.mac.counters.rec }

-- the level that the port drives in a bit time of the case
abbrev pub driven_in : Option TesterLevel → Script → ℕ → PortState → Option Level
driven_in None s t p = None
driven_in (Some x) s t p = Some (port_drives (handed s t p))

-- its event in that bit time
abbrev pub event_of : Option TesterLevel → Script → ℕ → PortState → Option Event
event_of None s t p = None
event_of (Some x) s t p = told_event x (handed s t p)

-- level and event of bit time t, and the counters after it
abbrev pub moment_at : Script → ℕ → Moment
moment_at s t = record {
  drove = driven_in (slice_get s.tester.items t) s t (before s t);
  event = event_of (slice_get s.tester.items t) s t (before s t);
  counters = counters_of (before s (t + 1));
}

-- the state of fault confinement and the error counters of a port
abbrev pub ending_of : PortState → Ending
ending_of p = record { state = state_of p.mac.counters; counters = counters_of p }

-- those of the run after its last bit time
abbrev pub script_end : Script → Ending
script_end s = ending_of (before s (length s.tester.items))

-- ---- the state of the reference before a bit time

-- the last event, given the event of bit time t
abbrev pub last_event : Option Event → ℕ → Option (Timed Event) → Option (Timed Event)
last_event None t since = since
last_event (Some event) t since = Some (record { time = t; told = event })

-- its last event before bit time t
unfoldable pub since_before : Script → ℕ → Option (Timed Event)
since_before s zero = None
since_before s (suc t) = last_event (moment_at s t).event t (since_before s t)

-- the rule after a bit time
abbrev pub next_rule : Option TesterLevel → Script → ℕ → PortState → Rule → Rule
next_rule None s t p now = now
next_rule (Some x) s t p now =
    rule_after (told_event x (handed s t p)) (kind_of p.mac)
    (sees x (handed s t p)) (met x (handed s t p)).mac

-- the rule that decides in bit time t
unfoldable pub rule_before : Script → ℕ → Rule
rule_before s zero = phase_rule (started s.start).mac.phase (started s.start).mac.role
rule_before s (suc t) = next_rule (slice_get s.tester.items t) s t (before s t) (rule_before s t)

-- the state of the reference before bit time t
abbrev pub standing_before : Script → ℕ → Standing
standing_before s t = record {
  phase = kind_of (before s t).mac;
  place = place_of (before s t).mac;
  is_sender = is_sender (before s t).mac.role;
  rule = rule_before s t;
  since = since_before s t;
}
