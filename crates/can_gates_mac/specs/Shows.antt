-- Wires that are can_mac's move from a phase.
use Rattle.std.specs.Prelude.{ℕ, ◌≡◌, Bool, Option}
use Rattle.can_frame.specs.declared.level.Level.{Level}
use Rattle.can_frame.specs.Parts.{Parts}
use Rattle.can_code.specs.Front.{FrontParts}
use Rattle.can_mac.specs.declared.moves.Stance.{Stance}
use Rattle.can_mac.specs.declared.phase.Phase.TheVariants.{StuffedPart}
use Rattle.can_mac.specs.State.{MacPhase}
use Rattle.can_mac.specs.Moves.{move}
use Rattle.can_gates_mac.specs.declared.wires.Wires.{Wires}
use Rattle.can_gates_mac.specs.declared.wires.Part.{Part}
use Rattle.can_gates_mac.specs.declared.senses.Senses.{Senses}
use Rattle.can_gates_mac.specs.Numbers.{numbers}
use Rattle.can_gates_mac.specs.Shown.{shown}
use Rattle.can_gates_mac.specs.Inputs.{ReadsPart}
use Rattle.can_gates_mac.specs.Sensed.{IsSensed}

-- the wires are the move from this phase, for any stance of the controller, any pending frame and any level
abbrev pub ShowsMove : (ℕ → Bool) → Senses → Wires → MacPhase → Type 0
ShowsMove v k w p =
    (s : Stance) (waiting : Option Parts) (x : Level) → IsSensed v k s p waiting x
    → shown v w ≡ numbers (move s p waiting x)

-- the wires are the move from the stuffed part, for any frame received so far
abbrev pub ShowsPart : (ℕ → Bool) → Senses → Part → Wires → Type 0
ShowsPart v k part w =
    (s : Stance) (front : FrontParts) (waiting : Option Parts) (x : Level) →
    IsSensed v k s (StuffedPart front) waiting x → ReadsPart v part s.role front x →
    shown v w ≡ numbers (move s (StuffedPart front) waiting x)
