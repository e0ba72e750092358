-- The bus, bit time by bit time: all ports drive, the levels are wired, a hit may invert the wired level, and each port samples the
-- recorded level, or its opposite if a hit names it. (docs/BUS.md, "A bit time", "Attempts" and "Disturbances")
use Rattle.std.specs.Prelude.{ℕ, zero, suc, ◌≡◌, ◌+◌, ◌<◌, ◌==◌, min, Bool, false, ◌&&◌, if◌then◌else◌, List, [], ◌∷◌, length, map, Option, Some, None, slice_get}
use Rattle.std.specs.List.{list_any}
use Rattle.can_frame.specs.declared.level.Level.{Level}
use Rattle.can_frame.specs.declared.level.Level.TheVariants.{Dominant, Recessive}
use Rattle.can_frame.specs.Levels.{opposite}
use Rattle.can_frame.specs.IdleRow.{idle_row}
use Rattle.can_node.specs.Ports.{PortState, port_drives, port_step}
use Rattle.can_terms.specs.declared.hit.Hit.{Hit}
use Rattle.can_terms.specs.declared.hit.Hit.TheVariants.{At, In, View}
use Rattle.can_bus.specs.declared.moment.Attempt.{Attempt}
use Rattle.can_bus.specs.Wired.{wired}

-- a bus: its ports, and the number of recessive levels recorded last in a row, counted up to eleven
pub record BusState : Type 0 where
  pub ports : List PortState
  pub rest : ℕ

-- a new bus: eleven recessive levels count as recorded last
abbrev pub new_bus : List PortState → BusState
new_bus ports = record { ports = ports; rest = idle_row }

-- the progress of a call: the bus, the bit time, and the latest attempt of the call
pub record CallState : Type 0 where
  pub bus : BusState
  pub time : ℕ
  pub latest : Option Attempt

-- the start of a call
abbrev pub call_begun : BusState → CallState
call_begun bus = record { bus = bus; time = 0; latest = None }

-- the wired level of the ports
abbrev pub wired_level : CallState → Level
wired_level c = wired (map port_drives c.bus.ports)

-- an attempt begins at a dominant wired level after eleven recessive recorded ones
abbrev pub begins_attempt : ℕ → Level → Bool
begins_attempt rest Dominant = rest == idle_row
begins_attempt rest Recessive = false

-- the attempt that begins after this one
abbrev pub following : Option Attempt → Attempt
following None = record { number = 0; offset = 0 }
following (Some a) = record { number = a.number + 1; offset = 0 }

-- the attempt one bit time later
abbrev pub aged : Option Attempt → Option Attempt
aged None = None
aged (Some a) = Some (record { number = a.number; offset = a.offset + 1 })

-- the latest attempt in this bit time
abbrev pub attempt_now : CallState → Option Attempt
attempt_now c = if begins_attempt c.bus.rest (wired_level c) then Some (following c.latest) else aged c.latest

-- the attempt has this number, and began `offset` bit times ago
abbrev pub is_attempt : Option Attempt → ℕ → ℕ → Bool
is_attempt None number offset = false
is_attempt (Some a) number offset = (a.number == number) && (a.offset == offset)

-- the hit inverts the wired level at this time, in this attempt
abbrev pub hits_wire : ℕ → Option Attempt → Hit → Bool
hits_wire time attempt (At t) = t == time
hits_wire time attempt (In number offset) = is_attempt attempt number offset
hits_wire time attempt (View t node) = false

-- the hit inverts what this port samples at this time
abbrev pub hits_view : ℕ → ℕ → Hit → Bool
hits_view time port (At t) = false
hits_view time port (In number offset) = false
hits_view time port (View t node) = (t == time) && (node == port)

abbrev pub inverted_if : Bool → Level → Level
inverted_if hit x = if hit then opposite x else x

-- the recorded level: the wired one, inverted once if any hit falls on it
unfoldable pub recorded : List Hit → CallState → Level
recorded hits c = inverted_if (list_any (hits_wire c.time (attempt_now c)) hits) (wired_level c)

-- each port after it has sampled the level; `number` is that of the first
abbrev pub all_sampled : List Hit → ℕ → Level → ℕ → List PortState → List PortState
all_sampled hits time x number [] = []
all_sampled hits time x number (p ∷ ports) =
    port_step p (inverted_if (list_any (hits_view time number) hits) x) ∷ all_sampled hits time x (number + 1) ports

-- the number of recessive levels recorded last, including this one, counted up to eleven
abbrev pub rest_after : ℕ → Level → ℕ
rest_after rest Dominant = 0
rest_after rest Recessive = min (rest + 1) idle_row

-- one bit time
unfoldable pub bus_step : List Hit → CallState → CallState
bus_step hits c = record {
  bus = record { ports = all_sampled hits c.time (recorded hits c) 0 c.bus.ports; rest = rest_after c.bus.rest (recorded hits c) };
  time = c.time + 1;
  latest = attempt_now c;
}

-- n bit times
unfoldable pub bus_after : List Hit → ℕ → CallState → CallState
bus_after hits zero c = c
bus_after hits (suc n) c = bus_step hits (bus_after hits n c)

-- the level recorded at time t of a call
unfoldable pub bus_level : List Hit → ℕ → BusState → Level
bus_level hits t bus = recorded hits (bus_after hits t (call_begun bus))

-- the recorded levels are those of this function of time
abbrev pub AreLevelsOf : (ℕ → Level) → List Level → Type 0
AreLevelsOf line recorded = (t : ℕ) → t < length recorded → slice_get recorded t ≡ Some (line t)

-- the bus after n bit times of a call
unfoldable pub bus_run : List Hit → ℕ → BusState → BusState
bus_run hits n bus = (bus_after hits n (call_begun bus)).bus
