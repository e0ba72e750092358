-- The words (vectors) of the circuit: the name of each, with the literals of the controller that it names, the lowest
-- place first. (docs/CIRCUIT.md, "A step" and "Registers")
use Rattle.std.specs.Prelude.{ℕ, ◌≡◌, List, [], ◌∷◌, ◌++◌, length, map, codes}
use Rattle.can_gates.specs.declared.literal.Literal.{Literal}
use Rattle.can_gates.specs.declared.files.words.Word.{Word}
use Rattle.can_gates.specs.declared.files.words.Names.{Names}
use Rattle.can_gates_controller.specs.declared.ports.InputPorts.{InputPorts}
use Rattle.can_gates_controller.specs.declared.ports.OutputPorts.{OutputPorts}
use Rattle.can_gates_controller.specs.declared.registers.Registers.{Registers}
use Rattle.can_gates_controller.specs.declared.design.Design.{Design}
use Rattle.can_gates_controller.specs.Listed.{nibble_before, placed}

-- the inputs
abbrev pub input_words : InputPorts → List (List ℕ × List Literal)
input_words k =
    (codes "reset", k.reset ∷ [])
    ∷ (codes "integrating", k.integrating ∷ [])
    ∷ (codes "enable", k.enable ∷ [])
    ∷ (codes "bus", k.bus ∷ [])
    ∷ (codes "overload_request", k.overload_request ∷ [])
    ∷ (codes "overload_count", k.overload_count_ones ∷ k.overload_count_twos ∷ [])
    ∷ (codes "waits", k.waits ∷ [])
    ∷ (codes "wait_extended", k.frame.extended ∷ [])
    ∷ (codes "wait_remote", k.frame.remote ∷ [])
    ∷ (codes "wait_identifier", placed 29 k.frame.identifier)
    ∷ (codes "wait_dlc", nibble_before k.frame.dlc [])
    ∷ (codes "wait_data", placed 64 k.frame.bytes) ∷ []

-- the outputs
abbrev pub output_words : OutputPorts → List (List ℕ × List Literal)
output_words k =
    (codes "drive", k.drive ∷ [])
    ∷ (codes "event_code", nibble_before k.event_code [])
    ∷ (codes "frame_extended", k.frame.extended ∷ [])
    ∷ (codes "frame_remote", k.frame.remote ∷ [])
    ∷ (codes "frame_identifier", placed 29 k.frame.identifier)
    ∷ (codes "frame_dlc", nibble_before k.frame.dlc [])
    ∷ (codes "frame_data", placed 64 k.frame.bytes)
    ∷ (codes "tec", placed 9 k.tec)
    ∷ (codes "rec", placed 8 k.rec)
    ∷ (codes "passive", k.passive ∷ [])
    ∷ (codes "off", k.off ∷ [])
    ∷ (codes "legal", k.legal ∷ []) ∷ []

-- the registers
abbrev pub register_words : Registers → List (List ℕ × List Literal)
register_words k =
    let wires = k.controller.wires in
    let counters = k.controller.counters in
    (codes "phase", nibble_before wires.phase [])
    ∷ (codes "place", nibble_before wires.place [])
    ∷ (codes "last", wires.last ∷ [])
    ∷ (codes "unacknowledged", wires.unacknowledged ∷ [])
    ∷ (codes "first", wires.first ∷ [])
    ∷ (codes "sender", wires.sender ∷ [])
    ∷ (codes "pending", nibble_before wires.pending [])
    ∷ (codes "used", nibble_before wires.used [])
    ∷ (codes "tec_count", placed 9 counters.tec)
    ∷ (codes "rec_count", placed 8 counters.rec)
    ∷ (codes "occurrences", placed 7 counters.occurrences)
    ∷ (codes "heard", placed 103 k.heard.levels)
    ∷ (codes "heard_count", placed 7 k.heard.count)
    ∷ (codes "heard_last", k.heard.last ∷ [])
    ∷ (codes "heard_run", nibble_before k.heard.run [])
    ∷ (codes "heard_check", placed 15 k.heard.check)
    ∷ (codes "own", placed 103 k.own) ∷ []

-- the literals of all words, one word after another
abbrev pub literals_of : List (List ℕ × List Literal) → List Literal
literals_of [] = []
literals_of (w ∷ words) = w.1 ++ literals_of words

-- ---- the names of a file

-- the name of a word, and the number of its literals
abbrev pub sized : List ℕ × List Literal → List ℕ × ℕ
sized w = (w.0, length w.1)

-- the name and the number of places of a word in a file
abbrev pub has : Word → List ℕ × ℕ
has w = (w.name.now, w.places)

-- The names are those of the circuit and of its words, in their order. Their meanings, in comments, may be any text.
pub record IsNamed (n : Names) (d : Design) : Type 0 where
  pub circuit : n.circuit.now ≡ codes "riddlesage_controller"
  pub inputs : map has n.inputs.now ≡ map sized (input_words d.inputs)
  pub registers : map has n.registers.now ≡ map sized (register_words d.held)
  pub outputs : map has n.outputs.now ≡ map sized (output_words d.outputs)
