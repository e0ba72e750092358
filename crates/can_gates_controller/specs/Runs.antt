-- Runs of a controller in a circuit: one assignment for each step.
use Rattle.std.specs.Prelude.{ℕ, suc, ◌≡◌, ◌+◌, ◌-◌, ◌<◌, Bool, true, false, if◌then◌else◌, List, [], ◌∷◌, Some, None, length, slice_index_or}
use Rattle.can_frame.specs.Levels.{is_recessive, level_from}
use Rattle.can_frame.specs.Parts.{Parts}
use Rattle.can_fault.specs.Counters.{is_passive, is_bus_off}
use Rattle.can_mac.specs.State.{MacState, idle, joining}
use Rattle.can_mac.specs.Machine.{mac_drives}
use Rattle.can_gates.specs.declared.register.Register.{Register}
use Rattle.can_gates.specs.Circuit.{value, Keeps, CircuitParts, never}
use Rattle.can_gates.specs.Words.{number}
use Rattle.can_gates_mac.specs.Nibbles.{nibble}
use Rattle.can_terms.specs.Codes.{event_code}
use Rattle.can_gates_controller.specs.declared.ports.InputPorts.{InputPorts}
use Rattle.can_gates_controller.specs.declared.ports.OutputPorts.{OutputPorts}
use Rattle.can_gates_controller.specs.declared.design.Design.{Design}
use Rattle.can_gates_controller.specs.Whole.{HoldsAll}
use Rattle.can_gates_controller.specs.Fields.{frame_in, HoldsFields, frame_told}
use Rattle.can_gates_controller.specs.Listed.{AreSignals, register_list, input_list, output_list}
use Rattle.can_gates_controller.specs.Steps.{ControllerStep, state_behind, event_in, state_before}

-- the step that these inputs are
abbrev pub step_in : (ℕ → Bool) → InputPorts → ControllerStep
step_in v k = record {
  reset = value v k.reset;
  integrating = value v k.integrating;
  enable = value v k.enable;
  wish = if value v k.overload_request then Some (number v (k.overload_count_ones ∷ k.overload_count_twos ∷ [])) else None;
  waiting = if value v k.waits then Some (frame_in v k.frame) else None;
  level = level_from (value v k.bus);
}

-- the outputs are those of this controller in this step: the level that it drives, its event, its counters, and whether
-- it is error passive and bus-off
pub record Shows (v : ℕ → Bool) (k : OutputPorts) (m : MacState) (s : ControllerStep) : Type 0 where
  pub drive : value v k.drive ≡ is_recessive (mac_drives m s.waiting)
  pub event : nibble v k.event_code ≡ event_code (event_in m s)
  pub frame : (f : Parts) → frame_told (event_in m s) ≡ Some f → HoldsFields v k.frame f
  pub tec : number v k.tec ≡ m.counters.tec
  pub rec : number v k.rec ≡ m.counters.rec
  pub passive : value v k.passive ≡ is_passive m.counters
  pub off : value v k.off ≡ is_bus_off m.counters
  pub legal : value v k.legal ≡ true

-- a circuit's last inputs are the values of its registers: at first their initial values, then their next values one step before

-- the signal of register i
abbrev pub held_signal : CircuitParts → List Register → ℕ → ℕ
held_signal c registers i = c.inputs - length registers + i + 1

-- register i
abbrev pub register_at : List Register → ℕ → Register
register_at registers i = slice_index_or registers i (record { next = never; starts = false })

-- the registers have their initial values
abbrev pub StartsRegisters : CircuitParts → List Register → (ℕ → Bool) → Type 0
StartsRegisters c registers v =
    (i : ℕ) → i < length registers → v (held_signal c registers i) ≡ (register_at registers i).starts

-- the registers have the next values of the step before
abbrev pub StepsRegisters : CircuitParts → List Register → (ℕ → Bool) → (ℕ → Bool) → Type 0
StepsRegisters c registers before now =
    (i : ℕ) → i < length registers → now (held_signal c registers i) ≡ value before (register_at registers i).next

-- the initial value of each register is 0
abbrev pub StartsZero : Design → Type 0
StartsZero d = (i : ℕ) → i < length d.registers.items → (register_at d.registers.items i).starts ≡ false

-- with their initial values the registers hold an idle controller
abbrev pub StartsIdle : Design → Type 0
StartsIdle d = (v : ℕ → Bool) → StartsRegisters d.circuit d.registers.items v → HoldsAll v d.held idle

-- after a reset the registers hold an idle controller, or a joining one, whatever they held
abbrev pub Resets : Design → Type 0
Resets d =
    (before now : ℕ → Bool) → Keeps before d.circuit → value before d.inputs.reset ≡ true →
    StepsRegisters d.circuit d.registers.items before now →
    HoldsAll now d.held (if value before d.inputs.integrating then joining else idle)

-- in each assignment that keeps the circuit, for any controller in the registers and any inputs, the outputs are those
-- of the machine, and one step later the registers hold its next state
abbrev pub IsController : Design → Type 0
IsController d =
    (before : ℕ → Bool) (m : MacState) → Keeps before d.circuit → HoldsAll before d.held m →
    Shows before d.outputs m (step_in before d.inputs) ×
    ((now : ℕ → Bool) → StepsRegisters d.circuit d.registers.items before now →
    HoldsAll now d.held (state_behind m (step_in before d.inputs)))

-- an assignment for each of n steps: each keeps the circuit, and the registers take their next values
pub record IsRun (d : Design) (v : ℕ → ℕ → Bool) (n : ℕ) : Type 0 where
  pub keeps : (t : ℕ) → t < n → Keeps (v t) d.circuit
  pub takes : (t : ℕ) → suc t < n → StepsRegisters d.circuit d.registers.items (v t) (v (suc t))

-- the steps that the inputs are
abbrev pub steps_in : Design → (ℕ → ℕ → Bool) → ℕ → ControllerStep
steps_in d v t = step_in (v t) d.inputs

-- in each run, from any controller in the registers, the outputs in each step are those of the machine's own run
abbrev pub RunsAlike : Design → Type 0
RunsAlike d =
    (v : ℕ → ℕ → Bool) (m : MacState) (n : ℕ) → IsRun d v n → HoldsAll (v 0) d.held m →
    (t : ℕ) → t < n → Shows (v t) d.outputs (state_before m (steps_in d v) t) (steps_in d v t)

-- the circuit's first inputs are those of a step, and its last ones the values of registers, each in the order of its
-- list; the outputs are listed in the order of a file
pub record HasPorts (d : Design) : Type 0 where
  pub inputs : d.circuit.inputs ≡ 384
  pub registers : length d.registers.items ≡ 277
  pub comes : AreSignals 1 107 (input_list d.inputs)
  pub held : AreSignals 108 277 (register_list d.held)
  pub goes : d.listed.items ≡ output_list d.outputs
