-- Recovery from bus off: it ends with the 128th occurrence of eleven recessive levels in a row. Occurrences do not
-- overlap, and no request is needed. (Bosch CAN 2.0 part B, section 8)
use Rattle.std.specs.Prelude.{ℕ, ◌≡◌, ◌+◌, ◌-◌, ◌/◌, ◌%◌, ◌<◌, ◌≤◌, nat_lt, nat_le, Bool, ◌&&◌, if◌then◌else◌, List, [], ◌∷◌, ◌++◌, length, reverse, replicate, sum_by, take, take_while}
use Rattle.can_frame.specs.declared.level.Level.{Level}
use Rattle.can_frame.specs.declared.level.Level.TheVariants.{Dominant, Recessive}
use Rattle.can_frame.specs.Levels.{is_recessive}
use Rattle.can_frame.specs.IdleRow.{idle_row}
use Rattle.can_fault.specs.declared.state.State.TheVariants.{BusOff}
use Rattle.can_fault.specs.Counters.{ConfineParts, fresh, is_bus_off, state_of}

-- the lengths of the recessive runs between the dominant levels of a list, the first one n longer; a run may be empty
abbrev pub runs_from : ℕ → List Level → List ℕ
runs_from n [] = n ∷ []
runs_from n (Dominant ∷ levels) = n ∷ runs_from 0 levels
runs_from n (Recessive ∷ levels) = runs_from (n + 1) levels

-- the lengths of the recessive runs of a list
abbrev pub recessive_runs : List Level → List ℕ
recessive_runs levels = runs_from 0 levels

-- the number of occurrences of eleven recessive levels in a row, of which no two share a level
unfoldable pub occurrences_in : List Level → ℕ
occurrences_in levels = sum_by (λ n. n / idle_row) (recessive_runs levels)

-- the length of the recessive run that ends the list
unfoldable pub last_run : List Level → ℕ
last_run levels = length (take_while is_recessive (reverse levels))

-- the levels since the last occurrence that c has counted, followed by these
abbrev pub since_last : ConfineParts → List Level → List Level
since_last c levels = replicate c.row Recessive ++ levels

-- these levels complete the 128th occurrence
abbrev pub EndsBusOff : ConfineParts → List Level → Type 0
EndsBusOff c levels = c.occurrences + occurrences_in (since_last c levels) ≡ 128

-- bus off ends after the first n of the levels, and not before
pub record EndsBehind (c : ConfineParts) (levels : List Level) (n : ℕ) : Type 0 where
  pub off : state_of c ≡ BusOff
  pub within : n ≤ length levels
  pub ends : EndsBusOff c (take n levels)
  pub first : (m : ℕ) → m < n → EndsBusOff c (take m levels) → ⊥

-- bus off ends after no prefix of the levels
abbrev pub StaysBusOff : ConfineParts → List Level → Type 0
StaysBusOff c levels = (m : ℕ) → EndsBusOff c (take m levels) → ⊥

-- the counters of a node that is bus off, after levels that do not end it
abbrev pub after_levels : ConfineParts → List Level → ConfineParts
after_levels c levels = record c {
  occurrences = c.occurrences + occurrences_in (since_last c levels);
  row = last_run (since_last c levels) % idle_row;
}

-- This after one level, computed: a dominant level begins the row again. So does the eleventh recessive one, which is
-- an occurrence.
abbrev pub after_level : Level → ConfineParts → ConfineParts
after_level Dominant c = record c { row = 0 }
after_level Recessive c =
    if nat_lt c.row (idle_row - 1) then record c { row = c.row + 1 } else record c { occurrences = c.occurrences + 1; row = 0 }

-- bus off ends with this level
abbrev pub ends_bus_off : Level → ConfineParts → Bool
ends_bus_off level c = is_bus_off c && nat_le 128 (after_level level c).occurrences

-- the counters after one level: once bus off ends, both are 0
abbrev pub recovered : Level → ConfineParts → ConfineParts
recovered level c = if is_bus_off c then (if ends_bus_off level c then fresh else after_level level c) else c
