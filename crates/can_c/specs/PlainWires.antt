-- The state of a bus line between two bit times, as plain fields for C. (docs/BUS.md, "Attempts")
use Rattle.std.specs.Prelude.{ℕ, ◌+◌, ◌-◌, ◌^◌, ◌==◌, nat_lt, nat_le, Bool, ◌&&◌, ◌||◌, if◌then◌else◌, Option, Some, None, unwrap_or, List, length}
use Rattle.can_frame.specs.declared.level.Level.{Level}
use Rattle.can_frame.specs.IdleRow.{idle_row}
use Rattle.can_frame.specs.Levels.{are_level_codes, levels_of_codes}
use Rattle.can_bus.specs.declared.moment.Attempt.{Attempt}
use Rattle.can_bus.specs.Wired.{wired}
use Rattle.can_bus.specs.WireSteps.{WireState}
use Rattle.can_c.specs.declared.inputs.PlainHit.{PlainHit}
use Rattle.can_c.specs.declared.plain_wire.PlainWire.{PlainWire}
use Rattle.can_c.specs.declared.status.Status.{Status}
use Rattle.can_c.specs.declared.status.Status.TheVariants.{Done, BadKind, BadLevel, BadWire, NoSuchPort}
use Rattle.can_c.specs.PlainInputs.{first_reason}

-- `attempts` attempts can have begun before bit time `time`, each in a bit time of its own and the latest in bit time
-- `start`
abbrev pub have_come : ℕ → ℕ → ℕ → Bool
have_come attempts start time = (attempts == 0) || (nat_lt start time && nat_le attempts (start + 1))

-- the latest of these attempts, as it was in the bit time before `time`
abbrev pub latest_of : ℕ → ℕ → ℕ → Option Attempt
latest_of attempts start time = if attempts == 0 then None else Some (record { number = attempts - 1; offset = time - (start + 1) })

-- plain fields are a wire that can pass one more bit time; bit times are counted to 2^64 - 1
abbrev pub is_wire : PlainWire → Bool
is_wire w = nat_le w.until_rest idle_row && (nat_lt w.time (2 ^ 64 - 1) && have_come w.attempts w.start w.time)

-- the wire of plain fields
abbrev pub wire_of_plain : PlainWire → WireState
wire_of_plain w = record { rest = idle_row - w.until_rest; time = w.time; latest = latest_of w.attempts w.start w.time }

-- the level that several nodes drive together, given the number of each level
abbrev pub wired_in : List ℕ → Level
wired_in drives = wired (levels_of_codes drives)

-- why plain fields are no hit of a wire that `count` nodes drive: there are three kinds, and a `View` names one of the nodes
abbrev pub struck_refusal : ℕ → PlainHit → Option Status
struck_refusal count h = if nat_lt 2 h.kind then Some BadKind else if (h.kind == 2) && nat_le count h.port then Some NoSuchPort else None

-- the status of one bit time of a wire
abbrev pub wire_status : PlainWire → List ℕ → List PlainHit → Status
wire_status w drives hits =
    if is_wire w
    then (if are_level_codes drives then unwrap_or (first_reason (struck_refusal (length drives)) hits) Done else BadLevel) else BadWire
