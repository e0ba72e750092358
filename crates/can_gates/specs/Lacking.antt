-- Why a circuit lacks a gate: it is full, or it was given a signal that it does not have.
use Rattle.std.specs.Prelude.{ℕ, ◌≡◌, ◌≤◌, ◌⊎◌, nat_lt, if◌then◌else◌, List, [], ◌∷◌, length, Option, Some, None, is_some}
use Rattle.can_gates.specs.declared.literal.Literal.{Literal}
use Rattle.can_gates.specs.declared.lack.Lack.{Lack}
use Rattle.can_gates.specs.declared.lack.Lack.TheVariants.{Room, Signal}
use Rattle.can_gates.specs.declared.lack.CircuitFault.{CircuitFault}
use Rattle.can_gates.specs.declared.lack.CircuitFault.TheVariants.{Memory, Incomplete}
use Rattle.can_gates.specs.Circuit.{CircuitParts}

-- why a circuit cannot have one more gate, if so: `signal` is the higher of the signals of the gate's sides
abbrev pub lack_with : CircuitParts → ℕ → Option Lack
lack_with c signal =
    if is_some c.lack then c.lack
    else if nat_lt c.highest signal then Some Signal
    else (if nat_lt (length c.gates) c.room then None else Some Room)

-- the circuit has the signals of these literals
abbrev pub HasSignals : CircuitParts → List Literal → Type 0
HasSignals c [] = Unit {0}
HasSignals c (l ∷ literals) = (l.signal ≤ c.highest) × HasSignals c literals

-- if the circuit has the signals of the literals given to a call, it has those of the literals that the call makes; and if it was complete and is no
-- longer, it is full
abbrev pub Serves : CircuitParts → CircuitParts → List Literal → List Literal → Type 0
Serves old new given made =
    HasSignals old given → (old.highest ≤ new.highest) × HasSignals new made × ((new.lack ≡ old.lack) ⊎ (new.lack ≡ Some Room))

-- why a circuit is not returned: it lacks a gate, or it is complete and an allocation failed
abbrev pub fault_of : Option Lack → CircuitFault
fault_of None = Memory
fault_of (Some lack) = Incomplete lack
