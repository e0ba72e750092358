-- The invariant of a circuit's own fields: its gates are in order, and there are memory and signal numbers for its whole capacity.
use Rattle.std.specs.Prelude.{ℕ, ◌≡◌, ◌+◌, ◌<◌, ◌≤◌, ◌^◌, List, length, reverse, Option, Some}
use Rattle.can_gates.specs.declared.circuit.Gate.{Gate}
use Rattle.can_gates.specs.declared.lack.Lack.{Lack}
use Rattle.can_gates.specs.declared.lack.Lack.TheVariants.{Room}
use Rattle.can_gates.specs.Ordered.{IsOrdered}

pub record Fits (inputs room highest : ℕ) (gates : List Gate) (capacity : ℕ) (lack : Option Lack) : Type 0 where
  pub ordered : IsOrdered inputs highest (reverse gates)
  pub counted : highest ≡ inputs + length gates
  pub memory : room ≤ capacity
  pub numbers : inputs + room < 2 ^ 32
  pub few : length gates ≤ room
  pub full : lack ≡ Some Room → length gates ≡ room
