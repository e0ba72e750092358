-- The words of the circuit and the lists of its literals.
use Rattle.std.proofs.Common.{◌≡◌, ℕ, ◌+◌, List, [], ◌∷◌, ◌++◌, length, map, codes, refl, ◌∙◌, ap₂, append_assoc, append-nil}
use Rattle.std.proofs.lemmas.List.{length-append}
use Rattle.can_gates.specs.declared.literal.Literal.{Literal}
use Rattle.can_gates_controller.specs.declared.ports.InputPorts.{InputPorts}
use Rattle.can_gates_controller.specs.declared.ports.OutputPorts.{OutputPorts}
use Rattle.can_gates_controller.specs.declared.registers.Registers.{Registers}
use Rattle.can_gates_controller.specs.Listed.{counters_list, field_list, heard_list, input_list, nibble_before, output_list, placed, register_list, wires_list}
use Rattle.can_gates_controller.proofs.ListedLemmas.{length-placed}
use Rattle.cangates.specs.Ports.{input_words, literals_of, output_words, register_words, sized}

-- ---- word by word

pub inputs_joined : (k : InputPorts) → literals_of (input_words k) ≡ input_list k
inputs_joined k = rw (append-nil (placed 64 k.frame.bytes)) refl

outputs_nested : (drives extended identifier dlc bytes tec rec ends : List Literal) → drives ++ (extended ++ (identifier ++ (dlc ++ (bytes ++ (tec ++ (rec ++ ends)))))) ≡ (((drives ++ (extended ++ (identifier ++ (dlc ++ bytes)))) ++ tec) ++ rec) ++ ends
outputs_nested drives extended identifier dlc bytes tec rec ends = simp (append_assoc)

pub outputs_joined : (k : OutputPorts) → literals_of (output_words k) ≡ output_list k
outputs_joined k =
    outputs_nested (k.drive ∷ nibble_before k.event_code []) (k.frame.extended ∷ k.frame.remote ∷ []) (placed 29 k.frame.identifier) (nibble_before k.frame.dlc []) (placed 64 k.frame.bytes) (placed 9 k.tec) (placed 8 k.rec)
    (k.passive ∷ k.off ∷ k.legal ∷ [])

registers_nested : (wires tec rec occurrences levels count run check own : List Literal)
    → wires ++ (tec ++ (rec ++ (occurrences ++ (levels ++ (count ++ (run ++ (check ++ (own ++ [])))))))) ≡ ((wires ++ ((tec ++ rec) ++ occurrences)) ++ ((levels ++ count) ++ (run ++ check))) ++ own
registers_nested wires tec rec occurrences levels count run check own = simp (append_assoc, append-nil)

pub registers_joined : (k : Registers) → literals_of (register_words k) ≡ register_list k
registers_joined k =
    let c = k.controller.counters in
    registers_nested (wires_list k.controller.wires) (placed 9 c.tec) (placed 8 c.rec) (placed 7 c.occurrences) (placed 103 k.heard.levels) (placed 7 k.heard.count)
    (k.heard.last ∷ nibble_before k.heard.run []) (placed 15 k.heard.check) (placed 103 k.own)

-- ---- how many literals

-- a list is as long as its parts
longer : (a b : List Literal) (n m : ℕ) → length a ≡ n → length b ≡ m → length (a ++ b) ≡ n + m
longer a b n m e1 e2 = length-append a b ∙ ap₂ (λ x y. x + y) e1 e2

fields_fit : (extended remote : Literal) (identifier dlc bytes : List Literal) → length dlc ≡ 4 → length (extended ∷ remote ∷ (placed 29 identifier ++ (dlc ++ placed 64 bytes))) ≡ 99
fields_fit extended remote identifier dlc bytes four =
    longer (extended ∷ remote ∷ []) (placed 29 identifier ++ (dlc ++ placed 64 bytes)) 2 97 refl
    (longer (placed 29 identifier) (dlc ++ placed 64 bytes) 29 68 (length-placed 29 identifier) (longer dlc (placed 64 bytes) 4 64 four (length-placed 64 bytes)))

pub inputs_fit : (k : InputPorts) → length (input_list k) ≡ 107
inputs_fit k =
    longer (k.reset ∷ k.integrating ∷ k.enable ∷ k.bus ∷ k.overload_request ∷ k.overload_count_ones ∷ k.overload_count_twos ∷ k.waits ∷ []) (field_list k.frame) 8 99 refl
    (fields_fit k.frame.extended k.frame.remote k.frame.identifier (nibble_before k.frame.dlc []) k.frame.bytes refl)

pub outputs_fit : (k : OutputPorts) → length (output_list k) ≡ 124
outputs_fit k =
    let frame = fields_fit k.frame.extended k.frame.remote k.frame.identifier (nibble_before k.frame.dlc []) k.frame.bytes refl in
    let drives : List Literal = k.drive ∷ nibble_before k.event_code [] in
    let tec = placed 9 k.tec in
    let rec = placed 8 k.rec in
    longer (((drives ++ field_list k.frame) ++ tec) ++ rec) (k.passive ∷ k.off ∷ k.legal ∷ []) 121 3
    (longer ((drives ++ field_list k.frame) ++ tec) rec 113 8 (longer (drives ++ field_list k.frame) tec 104 9 (longer drives (field_list k.frame) 5 99 refl frame) (length-placed 9 k.tec)) (length-placed 8 k.rec)) refl

pub registers_fit : (k : Registers) → length (register_list k) ≡ 277
registers_fit k =
    let c = k.controller.counters in
    let h = k.heard in
    let wires = wires_list k.controller.wires in
    let counters : length (counters_list c) ≡ 24 =
    longer (placed 9 c.tec ++ placed 8 c.rec) (placed 7 c.occurrences) 17 7 (longer (placed 9 c.tec) (placed 8 c.rec) 9 8 (length-placed 9 c.tec) (length-placed 8 c.rec)) (length-placed 7 c.occurrences) in
    let heard : length (heard_list h) ≡ 130 =
    longer (placed 103 h.levels ++ placed 7 h.count) (h.last ∷ nibble_before h.run (placed 15 h.check)) 110 20
    (longer (placed 103 h.levels) (placed 7 h.count) 103 7 (length-placed 103 h.levels) (length-placed 7 h.count))
    (longer (h.last ∷ nibble_before h.run []) (placed 15 h.check) 5 15 refl (length-placed 15 h.check)) in
    longer ((wires ++ counters_list c) ++ heard_list h) (placed 103 k.own) 174 103
    (longer (wires ++ counters_list c) (heard_list h) 44 130 (longer wires (counters_list c) 20 24 refl counters) heard) (length-placed 103 k.own)

-- ---- the places of each word

pub inputs_sized : (k : InputPorts) → map sized (input_words k) ≡ (codes "reset", 1) ∷ (codes "integrating", 1) ∷ (codes "enable", 1) ∷ (codes "bus", 1) ∷ (codes "overload_request", 1) ∷ (codes "overload_count", 2) ∷ (codes "waits", 1)
    ∷ (codes "wait_extended", 1) ∷ (codes "wait_remote", 1) ∷ (codes "wait_identifier", 29) ∷ (codes "wait_dlc", 4) ∷ (codes "wait_data", 64) ∷ []
inputs_sized k = rw (length-placed 29 k.frame.identifier, length-placed 64 k.frame.bytes) refl

pub outputs_sized : (k : OutputPorts) → map sized (output_words k) ≡ (codes "drive", 1) ∷ (codes "event_code", 4) ∷ (codes "frame_extended", 1) ∷ (codes "frame_remote", 1) ∷ (codes "frame_identifier", 29) ∷ (codes "frame_dlc", 4)
    ∷ (codes "frame_data", 64) ∷ (codes "tec", 9) ∷ (codes "rec", 8) ∷ (codes "passive", 1) ∷ (codes "off", 1) ∷ (codes "legal", 1) ∷ []
outputs_sized k = rw (length-placed 29 k.frame.identifier, length-placed 64 k.frame.bytes, length-placed 9 k.tec, length-placed 8 k.rec) refl

pub registers_sized : (k : Registers) → map sized (register_words k) ≡ (codes "phase", 4) ∷ (codes "place", 4) ∷ (codes "last", 1) ∷ (codes "unacknowledged", 1) ∷ (codes "first", 1) ∷ (codes "sender", 1) ∷ (codes "pending", 4)
    ∷ (codes "used", 4) ∷ (codes "tec_count", 9) ∷ (codes "rec_count", 8) ∷ (codes "occurrences", 7) ∷ (codes "heard", 103) ∷ (codes "heard_count", 7) ∷ (codes "heard_last", 1) ∷ (codes "heard_run", 4) ∷ (codes "heard_check", 15)
    ∷ (codes "own", 103) ∷ []
registers_sized k =
    let c = k.controller.counters in
    rw (
      length-placed 9 c.tec,
      length-placed 8 c.rec,
      length-placed 7 c.occurrences,
      length-placed 103 k.heard.levels,
      length-placed 7 k.heard.count,
      length-placed 15 k.heard.check,
      length-placed 103 k.own,
    ) refl
