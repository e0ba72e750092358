-- A circuit with registers and outputs as a module of Verilog-2001: its ports and registers as words, with their meaning in comments, and its
-- statements.
use Rattle.std.specs.Prelude.{ℕ, ◌+◌, ◌-◌, ◌==◌, if◌then◌else◌, false, List, [], ◌∷◌, ◌++◌, map, reverse, slice_index_or, codes, decimal}
use Rattle.std.specs.List.{flat_map}
use Rattle.can_gates.specs.declared.literal.Literal.{Literal}
use Rattle.can_gates.specs.declared.register.Register.{Register}
use Rattle.can_gates.specs.Circuit.{CircuitParts, never}
use Rattle.can_gates.specs.declared.files.words.Word.{Word}
use Rattle.can_gates.specs.declared.files.words.Names.{Names}
use Rattle.can_gates.specs.declared.files.words.Bit.{Bit}
use Rattle.can_gates.specs.Names.{bits_of_word, bit_text}
use Rattle.can_gates.specs.Statements.{Statement, Wire, And, Assign, Take, statement_text}

-- ---- its statements

-- the wires of these names: the signals from s on
abbrev pub wires : ℕ → List Bit → List Statement
wires s [] = []
wires s (b ∷ bits) = Wire s (bit_text b) ∷ wires (s + 1) bits

-- the assignments of these names: the outputs from index p on
abbrev pub assigns : ℕ → List Bit → List Literal → List Statement
assigns p [] outputs = []
assigns p (b ∷ bits) outputs = Assign (bit_text b) (slice_index_or outputs p never) ∷ assigns (p + 1) bits outputs

-- the next value of the register with index p
abbrev pub next_of : List Register → ℕ → Literal
next_of registers p = (slice_index_or registers p (record { next = never; starts = false })).next

-- the next values of these names: those of the registers from index p on
abbrev pub takes : ℕ → List Bit → List Register → List Statement
takes p [] registers = []
takes p (b ∷ bits) registers = Take (bit_text b) (next_of registers p) ∷ takes (p + 1) bits registers

-- ---- its head

abbrev pub port_text : Word → List ℕ
port_text w = codes ", " ++ w.name.now

abbrev pub width_text : ℕ → List ℕ
width_text places = if places == 1 then codes " " else codes " [" ++ (decimal (places - 1) ++ codes ":0] ")

abbrev pub declaration_text : List ℕ → Word → List ℕ
declaration_text kind w = kind ++ (width_text w.places ++ (w.name.now ++ (codes "; // " ++ (w.meaning.now ++ codes "\n"))))

abbrev pub title_text : Names → List ℕ
title_text n = codes "// " ++ (n.meaning.now ++ (codes "\nmodule " ++ (n.circuit.now ++ codes "(clock")))

unfoldable pub declarations_text : Names → List ℕ
declarations_text n =
    codes ");\ninput clock; // with each rising edge the registers take their next values\n" ++ (flat_map (declaration_text (codes "input")) n.inputs.now
    ++ (flat_map (declaration_text (codes "output")) n.outputs.now ++ (flat_map (declaration_text (codes "reg")) n.registers.now ++ codes "wire n0 = 1'b0;\n")))

unfoldable pub head_text : Names → List ℕ
head_text n = title_text n ++ (flat_map port_text n.inputs.now ++ (flat_map port_text n.outputs.now ++ declarations_text n))

-- ---- the whole

-- the next values of the registers with these names, and the end
unfoldable pub steps_text : List Bit → List Register → List ℕ
steps_text held registers = codes "always @(posedge clock) begin\n" ++ (flat_map statement_text (takes 0 held registers) ++ codes "end\nendmodule\n")

abbrev pub verilog_text : Names → CircuitParts → List Register → List Literal → List ℕ
verilog_text n c registers outputs =
    let held = flat_map bits_of_word n.registers.now in
    head_text n ++ (flat_map statement_text (wires 1 (flat_map bits_of_word n.inputs.now ++ held)) ++ (flat_map statement_text (map And (reverse c.gates))
    ++ (flat_map statement_text (assigns 0 (flat_map bits_of_word n.outputs.now) outputs) ++ steps_text held registers)))
