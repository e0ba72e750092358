-- A run with offers and hits, in terms of whole lists of levels: wired, recorded, and those that each port samples. (docs/BUS.md, "Runs")
use Rattle.std.specs.Prelude.{ℕ, ◌≡◌, ◌↔◌, ◌+◌, ◌<◌, ◌==◌, min, nat_lt, Bool, ◌&&◌, if◌then◌else◌, List, [], ◌∷◌, ◌++◌, All, length, map, slice_get, take, Some}
use Rattle.std.specs.List.{Any, Contains}
use Rattle.can_frame.specs.declared.level.Level.{Level}
use Rattle.can_frame.specs.Levels.{opposite}
use Rattle.can_frame.specs.IdleRow.{idle_row}
use Rattle.can_node.specs.Ports.{PortState, port_drives, port_step, with_offer}
use Rattle.can_terms.specs.declared.hit.Hit.{Hit}
use Rattle.can_terms.specs.declared.hit.Hit.TheVariants.{View}
use Rattle.can_bus.specs.declared.offer.Offer.{Offer}
use Rattle.can_bus.specs.Disturbed.{FallsOnWire, level_then, rest_before}
use Rattle.can_bus.specs.Offers.{is_full}
use Rattle.can_bus.specs.Run.{BusState}
use Rattle.can_bus.specs.Wired.{wired as wired_of}

-- the port with this number, after its offers of time t
abbrev pub given : List Offer → ℕ → ℕ → PortState → PortState
given [] t node p = p
given (offer ∷ offers) t node p = given offers t node (if (offer.time == t) && (offer.node == node) then with_offer offer.frame p else p)

-- the same port, from time t on, after it has sampled these levels: before each, its offers are made
abbrev pub port_played : List Offer → ℕ → ℕ → PortState → List Level → PortState
port_played offers t node p [] = p
port_played offers t node p (x ∷ levels) = port_played offers (t + 1) node (port_step (given offers t node p) x) levels

-- each port after its offers of time t; `node` is the number of the first
abbrev pub all_given : List Offer → ℕ → ℕ → List PortState → List PortState
all_given offers t node [] = []
all_given offers t node (p ∷ ports) = given offers t node p ∷ all_given offers t (node + 1) ports

-- each port after the first t of the levels that it samples
abbrev pub played_then : List Offer → ℕ → ℕ → List PortState → List (List Level) → List PortState
played_then offers t node [] seen = []
played_then offers t node (p ∷ ports) [] = []
played_then offers t node (p ∷ ports) (levels ∷ seen) =
    port_played offers 0 node p (take t levels) ∷ played_then offers t (node + 1) ports seen

-- for a run of this many bit times, and the levels that its ports sample
module _ (offers : List Offer) (ports : List PortState) (seen : List (List Level)) (bits : ℕ) where
  -- the offer after these is refused: it is made, and the queue of its port is full after the earlier ones
  abbrev pub is_refused : List Offer → Offer → Bool
  is_refused earlier offer = nat_lt offer.time bits
      && is_full offer.node (all_given earlier offer.time 0 (played_then offers offer.time 0 ports seen))

  -- the number of refused offers among these, one after another
  abbrev pub refusals : List Offer → List Offer → ℕ
  refusals earlier [] = 0
  refusals earlier (offer ∷ later) = (if is_refused earlier offer then 1 else 0) + refusals (earlier ++ offer ∷ []) later

-- A run of a bus from one state to another with these offers and hits, in terms of its lists of levels. Each list has one level for each
-- bit time, and each port has a list.
-- - `drives`: the wired level at each time is that of what the ports drive, after the levels that they have sampled and their offers.
-- - `records`: the recorded level is the opposite of the wired one exactly at the times at which a hit falls on the bus line.
-- - `sees`: a port samples the opposite of the recorded level exactly at the times of the `View`s that name it.
-- - `leads`: the final state of each port follows from its offers and the levels that it samples.
-- - `keeps_rest`: the bus keeps the number of recessive levels recorded last, at most eleven.
-- - `refuses`: this many offers find a full queue.
pub record IsDisturbedPlay (offers : List Offer) (hits : List Hit) (before : BusState) (wired recorded : List Level)
    (seen : List (List Level)) (after : BusState) (refused : ℕ) : Type 0 where
  pub long : length wired ≡ length recorded
  pub seen_long : All (λ levels. length levels ≡ length recorded) seen
  pub each_port : length seen ≡ length before.ports
  pub drives : (t : ℕ) → t < length recorded
      → level_then wired t ≡ wired_of
      (map port_drives (all_given offers t 0 (played_then offers t 0 before.ports seen)))
  pub records : (t : ℕ) → t < length recorded →
      (level_then recorded t ≡ opposite (level_then wired t)) ↔ Any (λ hit. FallsOnWire before.rest wired recorded hit t) hits
  pub sees : (port t : ℕ) (levels : List Level) → slice_get seen port ≡ Some levels → t < length recorded →
      (level_then levels t ≡ opposite (level_then recorded t)) ↔ Contains hits (View t port)
  pub leads : after.ports ≡ played_then offers (length recorded) 0 before.ports seen
  pub keeps_rest : after.rest ≡ min (rest_before before.rest recorded (length recorded)) idle_row
  pub refuses : refused ≡ refusals offers before.ports seen (length recorded) [] offers

-- there are wired levels, and levels that the ports sample, with which these recorded levels are such a run
abbrev pub WasPlayed : List Offer → List Hit → BusState → List Level → BusState → ℕ → Type 0
WasPlayed offers hits before recorded after refused =
    (wired : List Level) × (seen : List (List Level)) × IsDisturbedPlay offers hits before wired recorded seen after refused

-- a run without offers
abbrev pub IsDisturbedRun : List Hit → BusState → List Level → List Level → List (List Level) → BusState → Type 0
IsDisturbedRun hits before wired recorded seen after = IsDisturbedPlay [] hits before wired recorded seen after 0

abbrev pub WasDisturbed : List Hit → BusState → List Level → BusState → Type 0
WasDisturbed hits before recorded after = WasPlayed [] hits before recorded after 0
