-- The numbers of wires.
use Rattle.std.specs.Prelude.{ℕ, Bool, ◌&&◌, if◌then◌else◌, List, [], ◌∷◌}
use Rattle.can_gates.specs.Circuit.{value}
use Rattle.can_gates_mac.specs.declared.wires.Wires.{Wires}
use Rattle.can_gates_mac.specs.declared.wires.Row.{Row}
use Rattle.can_gates_mac.specs.Nibbles.{nibble}
use Rattle.can_gates_mac.specs.Numbers.{Numbers}

unfoldable pub shown : (ℕ → Bool) → Wires → Numbers
shown v w = record {
  phase = nibble v w.phase;
  place = nibble v w.place;
  last = value v w.last;
  unacknowledged = value v w.unacknowledged;
  first = value v w.first;
  sender = value v w.sender;
  pending = nibble v w.pending;
  used = nibble v w.used;
  cause = nibble v w.cause;
  event = nibble v w.event;
}

-- those of the first row whose two literals are true; otherwise the others
abbrev pub listed : (ℕ → Bool) → List Row → Numbers → Numbers
listed v [] otherwise = otherwise
listed v (r ∷ rows) otherwise = if value v r.0 && value v r.1 then shown v r.2 else listed v rows otherwise
