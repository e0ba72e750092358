-- The inputs, registers and outputs of a controller's circuit, each as one list, in the order of a file.
use Rattle.std.specs.Prelude.{ℕ, zero, suc, ◌≡◌, ◌+◌, ◌<◌, Bool, List, [], ◌∷◌, ◌++◌}
use Rattle.can_gates.specs.declared.literal.Literal.{Literal}
use Rattle.can_gates.specs.Circuit.{never, value_at}
use Rattle.can_gates_mac.specs.declared.nibble.Nibble.{Nibble}
use Rattle.can_gates_mac.specs.declared.wires.Wires.{Wires}
use Rattle.can_gates_mac.specs.declared.registers.Counters.{Counters}
use Rattle.can_gates_controller.specs.declared.heard.Heard.{Heard}
use Rattle.can_gates_controller.specs.declared.registers.Registers.{Registers}
use Rattle.can_gates_controller.specs.declared.fields.Fields.{Fields}
use Rattle.can_gates_controller.specs.declared.ports.InputPorts.{InputPorts}
use Rattle.can_gates_controller.specs.declared.ports.OutputPorts.{OutputPorts}

-- the first n literals of a word; past its end they are false
abbrev pub placed : ℕ → List Literal → List Literal
placed zero word = []
placed (suc n) [] = never ∷ placed n []
placed (suc n) (l ∷ word) = l ∷ placed n word

-- a number, its lowest bit first, before other literals
abbrev pub nibble_before : Nibble → List Literal → List Literal
nibble_before n rest = n.ones ∷ n.twos ∷ n.fours ∷ n.eights ∷ rest

-- the registers of a controller without its counters
abbrev pub wires_list : Wires → List Literal
wires_list w =
    nibble_before w.phase
    (nibble_before w.place (w.last ∷ w.unacknowledged ∷ w.first ∷ w.sender
    ∷ nibble_before w.pending (nibble_before w.used [])))

-- those of its counters
abbrev pub counters_list : Counters → List Literal
counters_list k = (placed 9 k.tec ++ placed 8 k.rec) ++ placed 7 k.occurrences

-- those of what it has received of a frame
abbrev pub heard_list : Heard → List Literal
heard_list k = (placed 103 k.levels ++ placed 7 k.count) ++ (k.last ∷ nibble_before k.run (placed 15 k.check))

-- all registers: the controller, its counters, the received frame, and the transmitter's frame
abbrev pub register_list : Registers → List Literal
register_list k = ((wires_list k.controller.wires ++ counters_list k.controller.counters) ++ heard_list k.heard) ++ placed 103 k.own

-- the fields of a frame
abbrev pub field_list : Fields → List Literal
field_list k = k.extended ∷ k.remote ∷ (placed 29 k.identifier ++ nibble_before k.dlc (placed 64 k.bytes))

-- all inputs
abbrev pub input_list : InputPorts → List Literal
input_list k =
    k.reset ∷ k.integrating ∷ k.enable ∷ k.bus ∷ k.overload_request ∷ k.overload_count_ones ∷ k.overload_count_twos
    ∷ k.waits ∷ field_list k.frame

-- all outputs
abbrev pub output_list : OutputPorts → List Literal
output_list k =
    ((((k.drive ∷ nibble_before k.event_code []) ++ field_list k.frame) ++ placed 9 k.tec) ++ placed 8 k.rec)
    ++ (k.passive ∷ k.off ∷ k.legal ∷ [])

-- n literals are the signals from this one on
abbrev pub AreSignals : ℕ → ℕ → List Literal → Type 0
AreSignals first n l = (v : ℕ → Bool) (p : ℕ) → p < n → value_at v l p ≡ v (first + p)
