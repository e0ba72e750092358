-- A choice between two controllers, and a level during bus-off.
use Rattle.std.specs.Prelude.{ℕ, ◌≡◌, Bool, if◌then◌else◌, List}
use Rattle.can_frame.specs.declared.level.Level.{Level}
use Rattle.can_fault.specs.Counters.{ConfineParts}
use Rattle.can_fault.specs.Recovery.{ends_bus_off, recovered}
use Rattle.can_gates.specs.declared.literal.Literal.{Literal}
use Rattle.can_gates.specs.Circuit.{value}
use Rattle.can_gates.specs.Words.{number}
use Rattle.can_gates_mac.specs.declared.nibble.Nibble.{Nibble}
use Rattle.can_gates_mac.specs.declared.registers.Controller.{Controller}
use Rattle.can_gates_mac.specs.Nibbles.{nibble}
use Rattle.can_gates_mac.specs.Shown.{shown}

-- the first controller if the test is true, otherwise the second
pub record IsChosen (v : ℕ → Bool) (k : Controller) (test : Bool) (a b : Controller) : Type 0 where
  pub wires : shown v k.wires ≡ (if test then shown v a.wires else shown v b.wires)
  pub tec : number v k.counters.tec ≡ (if test then number v a.counters.tec else number v b.counters.tec)
  pub rec : number v k.counters.rec ≡ (if test then number v a.counters.rec else number v b.counters.rec)
  pub occurrences : number v k.counters.occurrences ≡ (if test then number v a.counters.occurrences else number v b.counters.occurrences)

-- recovery after a level during bus-off
pub record Recovers (v : ℕ → Bool) (row : Nibble) (occurrences : List Literal) (end : Literal) (c : ConfineParts) (x : Level) : Type 0 where
  pub in_row : nibble v row ≡ (recovered x c).row
  pub occurred : number v occurrences ≡ (recovered x c).occurrences
  pub ended : value v end ≡ ends_bus_off x c
