-- A `Wire`, the bus line of a bus without its ports, bit time by bit time, whoever drives it. (docs/BUS.md, "A bit time", "Attempts" and
-- "Disturbances")
use Rattle.std.specs.Prelude.{ℕ, zero, suc, ◌≡◌, ◌↔◌, ◌+◌, ◌<◌, ◌≤◌, Bool, if◌then◌else◌, List, length, Option, Some, None}
use Rattle.std.specs.List.{Any, list_any}
use Rattle.can_frame.specs.declared.level.Level.{Level}
use Rattle.can_frame.specs.Levels.{opposite}
use Rattle.can_frame.specs.IdleRow.{idle_row}
use Rattle.can_terms.specs.declared.hit.Hit.{Hit}
use Rattle.can_bus.specs.declared.moment.Attempt.{Attempt}
use Rattle.can_bus.specs.Disturbed.{FallsOnWire, level_then}
use Rattle.can_bus.specs.Run.{CallState, aged, begins_attempt, following, hits_view, hits_wire, inverted_if, rest_after}
use Rattle.can_bus.specs.Walks.{IsPassed}

-- a bus line before a bit time: the number of recessive levels last in a row, counted up to eleven, the number of the bit time, and the
-- latest attempt
pub record WireState : Type 0 where
  pub rest : ℕ
  pub time : ℕ
  pub latest : Option Attempt

-- no attempt has lasted longer than the bus line, and each began in a bit time of its own
abbrev pub IsWire : WireState → Type 0
IsWire w = (w.rest ≤ idle_row) × IsPassed w.latest w.time

-- before the first bit time; this many recessive levels count as the last
abbrev pub wire_begun : ℕ → WireState
wire_begun rest = record { rest = rest; time = 0; latest = None }

-- the latest attempt in a bit time in which this level is driven
abbrev pub wire_attempt : WireState → Level → Option Attempt
wire_attempt w driven = if begins_attempt w.rest driven then Some (following w.latest) else aged w.latest

-- a hit falls on the bus line in that bit time
abbrev pub is_struck : List Hit → WireState → Level → Bool
is_struck hits w driven = list_any (hits_wire w.time (wire_attempt w driven)) hits

-- its level in that bit time
abbrev pub wire_level : List Hit → WireState → Level → Level
wire_level hits w driven = inverted_if (is_struck hits w driven) driven

-- what the node with this number samples of a level
abbrev pub wire_seen : List Hit → ℕ → Level → ℕ → Level
wire_seen hits time level node = inverted_if (list_any (hits_view time node) hits) level

-- the bus line one bit time later, if it was driven and had a level like this
abbrev pub wire_behind : WireState → Level → Level → WireState
wire_behind w driven level = record { rest = rest_after w.rest level; time = w.time + 1; latest = wire_attempt w driven }

-- one bit time
abbrev pub wire_step : List Hit → WireState → Level → WireState
wire_step hits w driven = wire_behind w driven (wire_level hits w driven)

-- n bit times, driven with the levels of this list
unfoldable pub wire_after : List Hit → List Level → ℕ → WireState → WireState
wire_after hits wired zero w = w
wire_after hits wired (suc n) w = wire_step hits (wire_after hits wired n w) (level_then wired n)

-- its level at time t
abbrev pub wire_then : List Hit → List Level → ℕ → WireState → Level
wire_then hits wired t w = wire_level hits (wire_after hits wired t w) (level_then wired t)

-- the bus line of a bus
abbrev pub wire_of : CallState → WireState
wire_of c = record { rest = c.bus.rest; time = c.time; latest = c.latest }

-- for these wired levels, with `rest` recessive ones before them, these are recorded: the opposite exactly at the times at which a hit
-- falls on the bus line
abbrev pub AreRecorded : List Hit → ℕ → List Level → List Level → Type 0
AreRecorded hits rest wired recorded = (t : ℕ) → t < length recorded →
    (level_then recorded t ≡ opposite (level_then wired t)) ↔ Any (λ hit. FallsOnWire rest wired recorded hit t) hits
