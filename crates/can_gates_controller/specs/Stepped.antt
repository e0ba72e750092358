-- The next values of registers in a step, by the list of their literals.
use Rattle.std.specs.Prelude.{ℕ, ◌≡◌, ◌<◌, ◌==◌, ◌&&◌, Bool, true, false, if◌then◌else◌, List}
use Rattle.can_mac.specs.State.{MacState, idle, joining}
use Rattle.can_gates.specs.declared.literal.Literal.{Literal}
use Rattle.can_gates.specs.declared.register.Register.{Register}
use Rattle.can_gates.specs.Circuit.{value, value_at}
use Rattle.can_gates_controller.specs.declared.registers.Registers.{Registers}
use Rattle.can_gates_controller.specs.declared.ports.InputPorts.{InputPorts}
use Rattle.can_gates_controller.specs.declared.ports.OutputPorts.{OutputPorts}
use Rattle.can_gates_controller.specs.Whole.{HoldsAll}
use Rattle.can_gates_controller.specs.Steps.{state_behind}
use Rattle.can_gates_controller.specs.Runs.{step_in, Shows}
use Rattle.can_gates_controller.specs.Listed.{register_list}

-- a register with this next value, which starts with 0
pub record IsRegister (r : Register) (l : Literal) : Type 0 where
  pub next : r.next ≡ l
  pub starts : r.starts ≡ false

-- these literals now have the values that others had before
abbrev pub TakesLevels : (ℕ → Bool) → (ℕ → Bool) → ℕ → List Literal → List Literal → Type 0
TakesLevels before now places held next = (p : ℕ) → p < places → value_at now held p ≡ value_at before next p

-- the next value of the register with this index: at a reset 0, except that the first is whether the controller joins;
-- otherwise that after the bit time, or the present one if none passes
abbrev pub taken_at : Bool → Bool → Bool → ℕ → Bool → Bool → Bool
taken_at reset integrating enable place next held = if reset then place == 0 && integrating else (if enable then next else held)

-- at a reset, registers that take these literals hold an idle controller, or a joining one
abbrev pub TakesReset : (ℕ → Bool) → InputPorts → Registers → List Literal → Type 0
TakesReset before k held taken =
    (now : ℕ → Bool) → value before k.reset ≡ true → TakesLevels before now 277 (register_list held) taken →
    HoldsAll now held (if value before k.integrating then joining else idle)

-- registers that take these literals hold the next state, and the outputs are those of the machine
abbrev pub TakesStep : (ℕ → Bool) → InputPorts → OutputPorts → Registers → List Literal → Type 0
TakesStep before i o held taken =
    (m : MacState) → HoldsAll before held m →
    Shows before o m (step_in before i) ×
    ((now : ℕ → Bool) → TakesLevels before now 277 (register_list held) taken →
    HoldsAll now held (state_behind m (step_in before i)))
