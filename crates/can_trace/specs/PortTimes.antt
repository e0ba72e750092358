-- What a port does in each bit time of a scenario's run. (docs/FORMATS.md, "`canbit run`"; docs/BUS.md, "A bit time")
use Rattle.std.specs.Prelude.{ℕ, ◌≡◌, ◌<◌, ◌==◌, ◌+◌, ◌*◌, ◌&&◌, if◌then◌else◌, List, [], ◌∷◌, drop, get_or, length, take, Option, Some, None, slice_get}
use Rattle.std.specs.List.{list_any}
use Rattle.can_frame.specs.declared.level.Level.{Level}
use Rattle.can_mac.specs.State.{is_sender, kind_of}
use Rattle.can_terms.specs.Codes.{kind_of_event}
use Rattle.can_node.specs.Ports.{PortState, port_drives, port_event, port_step, with_offer}
use Rattle.can_terms.specs.declared.hit.Hit.{Hit}
use Rattle.can_bus.specs.declared.offer.Offer.{Offer}
use Rattle.can_bus.specs.Offers.{all_made, played}
use Rattle.can_bus.specs.Run.{BusState, bus_run, hits_view, inverted_if}
use Rattle.can_trace.specs.Report.{level_by, made_bus, made_port, waiting_bus, waiting_port}
use Rattle.can_trace.specs.ScenarioOffers.{scenario_offers}
use Rattle.can_trace.specs.declared.port_times.PortTime.{PortTime}
use Rattle.can_scenario_text.specs.declared.scenario.PortPlan.{PortPlan}
use Rattle.can_scenario_text.specs.declared.scenario.Scenario.{Scenario}

-- ---- what is reported

-- a port, and what it does in a bit time in which it sees this level
abbrev pub port_time : PortState → Level → PortTime
port_time p seen = record {
  phase = kind_of p.mac;
  sends = is_sender p.mac.role;
  transmit = p.mac.counters.tec;
  receive = p.mac.counters.rec;
  drove = port_drives p;
  saw = seen;
  event = kind_of_event (port_event p seen);
}

-- ---- at which time

-- the bus at the beginning of a bit time, after the offers of this time
abbrev pub bus_by : List Hit → Scenario → ℕ → BusState
bus_by [] s t =
    let bus = played (scenario_offers s) t (made_bus s) in
    record bus { ports = all_made (scenario_offers s) t bus.ports }
bus_by (hit ∷ hits) s t = bus_run (hit ∷ hits) t (waiting_bus s)

abbrev pub bus_at : Scenario → ℕ → BusState
bus_at s t = bus_by s.hits.items s t

-- the level that the port with this number sees at time t
abbrev pub seen_under : List Hit → Scenario → ℕ → ℕ → Level
seen_under hits s node t = inverted_if (list_any (hits_view t node) hits) (level_by hits s t)

abbrev pub level_seen : Scenario → ℕ → ℕ → Level
level_seen s node t = seen_under s.hits.items s node t

-- these are the state and actions of the port with this number in each bit time
pub record AreTold (s : Scenario) (node : ℕ) (times : List PortTime) : Type 0 where
  pub each : length times ≡ s.bits
  pub told : (t : ℕ) (p : PortState) → t < s.bits → slice_get (bus_at s t).ports node ≡ Some p
      → slice_get times t ≡ Some (port_time p (level_seen s node t))

-- these are those of the first `ports` ports, one port after another
pub record AreFirstTold (s : Scenario) (ports : ℕ) (times : List PortTime) : Type 0 where
  pub each : length times ≡ ports * s.bits
  pub told : (node : ℕ) → node < ports → AreTold s node (take s.bits (drop (node * s.bits) times))

-- these are those of all ports, one port after another
abbrev pub AreAllTold : Scenario → List PortTime → Type 0
AreAllTold s times = AreFirstTold s (length s.ports.items) times

-- ---- this for one port alone

-- the port of a plan at the beginning of the run, and what all ports are offered during the run
abbrev pub first_port : List Hit → PortPlan → PortState
first_port [] plan = made_port plan
first_port (hit ∷ hits) plan = waiting_port plan

abbrev pub offers_meanwhile : List Hit → Scenario → List Offer
offers_meanwhile [] s = scenario_offers s
offers_meanwhile (hit ∷ hits) s = []

-- the port after the offers of this time that name it, in their order
abbrev pub own_made : ℕ → List Offer → ℕ → PortState → PortState
own_made node [] t p = p
own_made node (offer ∷ offers) t p =
    own_made node offers t (if (offer.time == t) && (offer.node == node) then with_offer offer.frame p else p)

-- its bit times from time t on, if it sees these levels
abbrev pub told_from : ℕ → List Offer → ℕ → PortState → List Level → List PortTime
told_from node offers t p [] = []
told_from node offers t p (x ∷ seen) =
    port_time (own_made node offers t p) x ∷ told_from node offers (t + 1) (port_step (own_made node offers t p) x) seen

-- if these levels are recorded, the port with this number sees those
abbrev pub AreSeen : List Hit → ℕ → List Level → List Level → Type 0
AreSeen hits node levels seen =
    (t : ℕ) (d : Level) → t < length levels
    → get_or seen t d ≡ inverted_if (list_any (hits_view t node) hits) (get_or levels t d)
