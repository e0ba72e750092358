-- Modules, read from their texts.
use Rattle.std.proofs.Common.{◌≡◌, ℕ, suc, ◌+◌, ◌-◌, ◌^◌, ◌<◌, if◌then◌else◌, Bool, true, false, eqb, List, [], ◌∷◌, ◌++◌, length, take, map, reverse, decimal, codes, refl, sym, ◌∙◌, ap, arith, append_assoc}
use Rattle.std.specs.Prelude.{slice_index_or}
use Rattle.std.specs.List.{flat_map, AllByRecursion}
use Rattle.std.specs.Str.Parse.{digits_value}
use Rattle.std.proofs.lemmas.Bool.{eqb-true}
use Rattle.std.proofs.lemmas.List.{length-append}
use Rattle.std.proofs.lemmas.List.Concat.{flat_map-append}
use Rattle.std.proofs.lemmas.Fmt.{decimal_digit, decimal_is_IsNumeral}
use Rattle.can_gates.specs.declared.literal.Literal.{Literal}
use Rattle.can_gates.specs.declared.circuit.Gate.{Gate}
use Rattle.can_gates.specs.declared.register.Register.{Register}
use Rattle.can_gates.specs.Circuit.{CircuitParts, never}
use Rattle.can_gates.specs.Aiger.{gate_numbers, input_lines, file_lines, output_numbers, register_lines}
use Rattle.can_gates.specs.AigerNumbers.{AreLines}
use Rattle.can_gates.specs.declared.files.words.Word.{Word}
use Rattle.can_gates.specs.declared.files.words.Names.{Names}
use Rattle.can_gates.specs.declared.files.words.Bit.{Bit}
use Rattle.can_gates.specs.Names.{bits_of_word, bit_text}
use Rattle.can_gates.specs.Statements.{Wire, And, Assign, Take, AreProper, IsOneLine, IsName, IsProper, words_by_line, statement_text, words_in}
use Rattle.can_gates.specs.Verilog.{assigns, declaration_text, declarations_text, head_text, next_of, port_text, steps_text, takes, title_text, verilog_text, width_text, wires}
use Rattle.can_gates.specs.Readable.{AreReadable, IsReadable}
use Rattle.can_gates.specs.Module.{Line, Comment, Declaration, End, EndModule, Module, Says, Steps, clock_line, clock_meaning, declaration_in, declared, lines_said, module_in, module_lines, word_name, places_in, read_module, said, shortened}
use Rattle.can_gates.proofs.Blocks.{Reads, joined, nothing, whole}
use Rattle.can_gates.proofs.Tested.{line_tested, name_tested}
use Rattle.can_gates.proofs.Proper.{IsBit, all_joined, assigns_are, gates_are, lines_apart, names_are, takes_are, wires_are}
use Rattle.can_gates.proofs.Reading.{decimal_name, joined_names, line_read, name_read, part_read, statement_read, words_read}

-- what is read of a text before the steps, and among them
abbrev before : List ℕ → List Line
before text = lines_said false (words_by_line [] [] text)

abbrev among : List ℕ → List Line
among text = lines_said true (words_by_line [] [] text)

-- ---- the module's line

last_left : (a b : List ℕ) → take (length (a ++ b) - length b) (a ++ b) ≡ a
last_left [] b = let none : length b - length b ≡ 0 = omega arith in rw none refl
last_left (c ∷ a) b = let one : suc (length (a ++ b)) - length b ≡ suc (length (a ++ b) - length b) = omega (arith, length-append a b) in rw one (ap (λ l. c ∷ l) (last_left a b))

-- the words of ports, after this beginning of one
abbrev port_words : List ℕ → List Word → List (List ℕ)
port_words word [] = (word ++ codes ")") ∷ []
port_words word (w ∷ ports) = (word ++ codes ",") ∷ port_words w.name.now ports

ports_read : (words : List (List ℕ)) (word : List ℕ) (ports : List Word) (rest : List ℕ) → AllByRecursion IsReadable ports
    → words_by_line words word ((flat_map port_text ports ++ codes ");\n") ++ rest) ≡ (words ++ port_words word ports) ∷ words_by_line [] [] rest
ports_read words word [] rest are = refl
ports_read words word (w ∷ ports) rest are =
    let name = w.name.now in
    let more = flat_map port_text ports in
    let all = words ++ (word ++ codes ",") ∷ [] in
    ap (words_by_line all []) (append_assoc (name ++ more) (codes ");\n") rest) ∙ part_read all [] name more (codes ");\n" ++ rest) are.0.name
    ∙ ap (words_by_line all name) (sym (append_assoc more (codes ");\n") rest)) ∙ ports_read all name ports rest are.1
    ∙ ap (λ l. l ∷ words_by_line [] [] rest) (append_assoc words ((word ++ codes ",") ∷ []) (port_words name ports))

ports_named : (w : Word) (ports : List Word) → map (shortened 1) (port_words w.name.now ports) ≡ w.name.now ∷ map word_name ports
ports_named w [] = ap (λ t. t ∷ []) (last_left w.name.now (codes ")"))
ports_named w (v ∷ ports) = ap (λ t. t ∷ map (shortened 1) (port_words v.name.now ports)) (last_left w.name.now (codes ",")) ∙ ap (λ l. w.name.now ∷ l) (ports_named v ports)

circuit_named : (name behind : List ℕ) → length behind ≡ 1 → shortened 7 ((name ++ codes "(clock") ++ behind) ≡ name
circuit_named name behind one =
    let all : List ℕ = codes "(clock" ++ behind in
    let seven : length all ≡ 7 = omega (arith, one) in
    ap (shortened 7) (append_assoc name (codes "(clock") behind) ∙ ap (λ n. take (length (name ++ all) - n) (name ++ all)) (sym seven) ∙ last_left name all

module_named : (name : List ℕ) (ports : List Word) → module_in (port_words (name ++ codes "(clock") ports) ≡ Module name (map word_name ports)
module_named name [] = ap (λ n. Module n []) (circuit_named name (codes ")") refl)
module_named name (w ∷ ports) =
    ap (λ n. Module n (map (shortened 1) (port_words w.name.now ports))) (circuit_named name (codes ",") refl) ∙ ap (Module name) (ports_named w ports)

title_read : (n : Names) (ports : List Word) → AreReadable n → AllByRecursion IsReadable ports
    → Reads before before (title_text n ++ (flat_map port_text ports ++ codes ");\n")) (Comment (words_in [] n.meaning.now) ∷ Module n.circuit.now (map word_name ports) ∷ [])
title_read n ports is are = record {
  on = λ rest.
      let meaning = n.meaning.now in
      let begun = n.circuit.now ++ codes "(clock" in
      let named : List ℕ = codes "\nmodule " ++ begun in
      let listed = flat_map port_text ports ++ codes ");\n" in
      let clear : IsName begun = joined_names n.circuit.now (codes "(clock") is.circuit (name_tested (codes "(clock") refl) in
      let lines : words_by_line [] [] ((title_text n ++ listed) ++ rest) ≡ (codes "//" ∷ words_in [] meaning) ∷ (codes "module" ∷ port_words begun ports) ∷ words_by_line [] [] rest =
      ap (words_by_line (codes "//" ∷ []) []) (append_assoc (meaning ++ named) listed rest ∙ append_assoc meaning named (listed ++ rest))
      ∙ line_read (codes "//" ∷ []) [] meaning ((codes "module " ++ begun) ++ (listed ++ rest)) is.meaning
      ∙ ap (λ l. (codes "//" ∷ words_in [] meaning) ∷ l) (name_read (codes "module" ∷ []) [] begun (listed ++ rest) clear ∙ ports_read (codes "module" ∷ []) begun ports rest are) in
      ap (lines_said false) lines ∙ ap (λ l. Comment (words_in [] meaning) ∷ l ∷ before rest) (module_named n.circuit.now ports);
}

-- ---- declarations

abbrev width_word : ℕ → List ℕ
width_word places = codes "[" ++ (decimal (places - 1) ++ codes ":0]")

abbrev width_words : Bool → ℕ → List (List ℕ)
width_words alone places = if alone then [] else width_word places ∷ []

abbrev behind_kind : Bool → ℕ → List ℕ → List ℕ → List (List ℕ)
behind_kind alone places name meaning = width_words alone places ++ (name ∷ codes "//" ∷ words_in [] meaning)

-- a name, a comment and the line's end
named_read : (words : List (List ℕ)) (name meaning rest : List ℕ) → IsName name → IsOneLine meaning
    → words_by_line words [] ((name ++ (codes "; // " ++ (meaning ++ codes "\n"))) ++ rest) ≡ (words ++ (name ∷ codes "//" ∷ words_in [] meaning)) ∷ words_by_line [] [] rest
named_read words name meaning rest clear is =
    let behind = (words ++ name ∷ []) ++ codes "//" ∷ [] in
    part_read words [] name (codes "; // " ++ (meaning ++ codes "\n")) rest clear ∙ ap (words_by_line behind []) (append_assoc meaning (codes "\n") rest) ∙ line_read behind [] meaning rest is
    ∙ ap (λ l. l ∷ words_by_line [] [] rest) (append_assoc (words ++ name ∷ []) (codes "//" ∷ []) (words_in [] meaning) ∙ append_assoc words (name ∷ []) (codes "//" ∷ words_in [] meaning))

declaration_words : (kind name meaning rest : List ℕ) (places : ℕ) → IsName kind → IsName name → IsOneLine meaning → places < 2 ^ 64
    → words_by_line [] [] ((kind ++ (width_text places ++ (name ++ (codes "; // " ++ (meaning ++ codes "\n"))))) ++ rest) ≡ (kind ∷ behind_kind (eqb places 1) places name meaning) ∷ words_by_line [] [] rest
declaration_words kind name meaning rest places known clear is few = by (eqb places 1)
  where
    digits : List ℕ
    digits = decimal (places - 1)

    named : List ℕ
    named = name ++ (codes "; // " ++ (meaning ++ codes "\n"))

    wide : IsName (width_word places)
    wide = joined_names (codes "[") (digits ++ codes ":0]") (name_tested (codes "[") refl) (joined_names digits (codes ":0]") (decimal_name (places - 1) (omega (arith, few))) (name_tested (codes ":0]") refl))

    by : (alone : Bool) → words_by_line [] [] ((kind ++ ((if alone then codes " " else codes " [" ++ (digits ++ codes ":0] ")) ++ named)) ++ rest) ≡ (kind ∷ behind_kind alone places name meaning) ∷ words_by_line [] [] rest
    by true = part_read [] [] kind (codes " " ++ named) rest known ∙ named_read (kind ∷ []) name meaning rest clear is
    by false =
        let apart : codes " [" ++ (digits ++ codes ":0] ") ≡ codes " " ++ (width_word places ++ codes " ") = ap (λ t. 32 ∷ 91 ∷ t) (sym (append_assoc digits (codes ":0]") (codes " "))) in
        ap (λ t. words_by_line [] [] ((kind ++ (t ++ named)) ++ rest)) apart
        ∙ part_read [] [] kind ((codes " " ++ (width_word places ++ codes " ")) ++ named) rest known
        ∙ ap (words_by_line (kind ∷ []) []) (append_assoc (width_word places ++ codes " ") named rest)
        ∙ part_read (kind ∷ []) [] (width_word places) (codes " ") (named ++ rest) wide ∙ named_read (kind ∷ width_word places ∷ []) name meaning rest clear is

places_read : (places : ℕ) → 0 < places → places < 2 ^ 64 → places_in (width_word places) ≡ places
places_read places some few =
    let number = places - 1 in
    let small : number < 2 ^ 64 = omega (arith, few) in
    let value : digits_value 10 (shortened 3 (decimal number ++ codes ":0]")) ≡ number = ap (digits_value 10) (last_left (decimal number) (codes ":0]")) ∙ (decimal_is_IsNumeral number small).1 in
    let back : number + 1 ≡ places = omega (arith, some) in ap (λ n. n + 1) value ∙ back

declaration_said : (kind : List ℕ) (w : Word) → IsReadable w → declaration_in kind (behind_kind (eqb w.places 1) w.places w.name.now w.meaning.now) ≡ declared kind w
declaration_said kind w is = by (eqb w.places 1) refl
  where
    comment : List (List ℕ)
    comment = words_in [] w.meaning.now

    by : (alone : Bool) → eqb w.places 1 ≡ alone → declaration_in kind (behind_kind alone w.places w.name.now w.meaning.now) ≡ declared kind w
    by true e = rw is.no_width (ap (λ p. Declaration kind p w.name.now comment) (sym (eqb-true w.places 1 e)))
    by false e = ap (λ p. Declaration kind p w.name.now comment) (places_read w.places is.some is.few)

-- lines of this kind are declarations
abbrev IsKind : List ℕ → Type 0
IsKind kind = (words : List (List ℕ)) (lines : List (List (List ℕ))) → lines_said false ((kind ∷ words) ∷ lines) ≡ declaration_in kind words ∷ lines_said false lines

declarations_read : (kind : List ℕ) (words : List Word) → IsName kind → IsKind kind → AllByRecursion IsReadable words → Reads before before (flat_map (declaration_text kind) words) (map (declared kind) words)
declarations_read kind [] known is are = nothing before
declarations_read kind (w ∷ words) known is are = joined one (declarations_read kind words known is are.1)
  where
    one : Reads before before (declaration_text kind w) (declared kind w ∷ [])
    one = record { on = λ rest. ap (lines_said false) (declaration_words kind w.name.now w.meaning.now rest w.places known are.0.name are.0.meaning are.0.few) ∙ is (behind_kind (eqb w.places 1) w.places w.name.now w.meaning.now) (words_by_line [] [] rest) ∙ ap (λ l. l ∷ before rest) (declaration_said kind w are.0) }

-- ---- statements

wire_read : (s : ℕ) (name : List ℕ) → IsProper (Wire s name) → Reads before before (statement_text (Wire s name)) (Says (Wire s name) ∷ [])
wire_read s name is = record { on = λ rest. ap (lines_said false) (words_read (Wire s name) rest is) ∙ ap (λ o. said o ∷ before rest) (statement_read (Wire s name) is) }

wires_read : (s : ℕ) (bits : List Bit) → AreProper (wires s bits) → Reads before before (flat_map statement_text (wires s bits)) (map Says (wires s bits))
wires_read s [] are = nothing before
wires_read s (b ∷ bits) are = joined (wire_read s (bit_text b) are.0) (wires_read (s + 1) bits are.1)

gates_said : (gates : List Gate) → AreProper (map And gates) → Reads before before (flat_map statement_text (map And gates)) (map Says (map And gates))
gates_said [] are = nothing before
gates_said (g ∷ gates) are = joined one (gates_said gates are.1)
  where
    one : Reads before before (statement_text (And g)) (Says (And g) ∷ [])
    one = record { on = λ rest. ap (lines_said false) (words_read (And g) rest are.0) ∙ ap (λ o. said o ∷ before rest) (statement_read (And g) are.0) }

assigns_read : (p : ℕ) (bits : List Bit) (outputs : List Literal) → AreProper (assigns p bits outputs) → Reads before before (flat_map statement_text (assigns p bits outputs)) (map Says (assigns p bits outputs))
assigns_read p [] outputs are = nothing before
assigns_read p (b ∷ bits) outputs are = joined (one (slice_index_or outputs p never) are.0) (assigns_read (p + 1) bits outputs are.1)
  where
    one : (l : Literal) → IsProper (Assign (bit_text b) l) → Reads before before (statement_text (Assign (bit_text b) l)) (Says (Assign (bit_text b) l) ∷ [])
    one l is = record { on = λ rest. ap (lines_said false) (words_read (Assign (bit_text b) l) rest is) ∙ ap (λ o. said o ∷ before rest) (statement_read (Assign (bit_text b) l) is) }

takes_read : (p : ℕ) (bits : List Bit) (registers : List Register) → AreProper (takes p bits registers) → Reads among among (flat_map statement_text (takes p bits registers)) (map Says (takes p bits registers))
takes_read p [] registers are = nothing among
takes_read p (b ∷ bits) registers are = joined (one (next_of registers p) are.0) (takes_read (p + 1) bits registers are.1)
  where
    one : (l : Literal) → IsProper (Take (bit_text b) l) → Reads among among (statement_text (Take (bit_text b) l)) (Says (Take (bit_text b) l) ∷ [])
    one l is = record { on = λ rest. ap (lines_said true) (words_read (Take (bit_text b) l) rest is) ∙ ap (λ o. said o ∷ among rest) (statement_read (Take (bit_text b) l) is) }

-- ---- lines of their own

-- a text that is spelled out, and the same in parts
abbrev clock_text : List ℕ
clock_text = codes "input clock; // with each rising edge the registers take their next values\n"

clock_parts : clock_text ≡ codes "input" ++ (width_text 1 ++ (codes "clock" ++ (codes "; // " ++ (clock_meaning ++ codes "\n"))))
unfolding clock_meaning
clock_parts = refl

clock_is_line : IsOneLine clock_meaning
unfolding clock_meaning
clock_is_line = line_tested clock_meaning refl

clock_read : Reads before before clock_text (clock_line ∷ [])
clock_read = record {
  on = λ rest.
      ap (λ t. before (t ++ rest)) clock_parts
      ∙ ap (lines_said false) (declaration_words (codes "input") (codes "clock") clock_meaning rest 1 (name_tested (codes "input") refl) (name_tested (codes "clock") refl) clock_is_line (omega arith));
}

zero_parts : codes "wire n0 = 1'b0;\n" ≡ codes "wire n" ++ (decimal 0 ++ (codes " = " ++ (codes "1'b0" ++ codes ";\n")))
zero_parts = ap (λ d. codes "wire n" ++ (d ++ (codes " = " ++ (codes "1'b0" ++ codes ";\n")))) (sym (decimal_digit 0 (omega arith)))

zero_read : Reads before before (codes "wire n0 = 1'b0;\n") (Says (Wire 0 (codes "1'b0")) ∷ [])
zero_read = record { on = λ rest. ap (λ t. before (t ++ rest)) zero_parts ∙ (wire_read 0 (codes "1'b0") (omega arith, name_tested (codes "1'b0") refl)).on rest }

four_read : (a b c d rest : List ℕ) → IsName a → IsName b → IsName c → IsName d
    → words_by_line [] [] ((a ++ (codes " " ++ (b ++ (codes " " ++ (c ++ (codes " " ++ (d ++ codes "\n"))))))) ++ rest) ≡ (a ∷ b ∷ c ∷ d ∷ []) ∷ words_by_line [] [] rest
four_read a b c d rest first second third fourth =
    part_read [] [] a (codes " " ++ (b ++ (codes " " ++ (c ++ (codes " " ++ (d ++ codes "\n")))))) rest first ∙ part_read (a ∷ []) [] b (codes " " ++ (c ++ (codes " " ++ (d ++ codes "\n")))) rest second
    ∙ part_read (a ∷ b ∷ []) [] c (codes " " ++ (d ++ codes "\n")) rest third ∙ part_read (a ∷ b ∷ c ∷ []) [] d (codes "\n") rest fourth

always_parts : codes "always @(posedge clock) begin\n" ≡ codes "always" ++ (codes " " ++ (codes "@(posedge" ++ (codes " " ++ (codes "clock)" ++ (codes " " ++ (codes "begin" ++ codes "\n"))))))
always_parts = refl

always_read : Reads before among (codes "always @(posedge clock) begin\n") (Steps (codes "@(posedge" ∷ codes "clock)" ∷ codes "begin" ∷ []) ∷ [])
always_read = record {
  on = λ rest.
      ap (λ t. before (t ++ rest)) always_parts
      ∙ ap (lines_said false) (four_read (codes "always") (codes "@(posedge") (codes "clock)") (codes "begin") rest (name_tested (codes "always") refl) (name_tested (codes "@(posedge") refl) (name_tested (codes "clock)") refl) (name_tested (codes "begin") refl));
}

two_read : (a b rest : List ℕ) → IsName a → IsName b → words_by_line [] [] ((a ++ (codes "\n" ++ (b ++ codes "\n"))) ++ rest) ≡ (a ∷ []) ∷ (b ∷ []) ∷ words_by_line [] [] rest
two_read a b rest first second = part_read [] [] a (codes "\n" ++ (b ++ codes "\n")) rest first ∙ ap (λ l. (a ∷ []) ∷ l) (part_read [] [] b (codes "\n") rest second)

ends_parts : codes "end\nendmodule\n" ≡ codes "end" ++ (codes "\n" ++ (codes "endmodule" ++ codes "\n"))
ends_parts = refl

ends_read : Reads among among (codes "end\nendmodule\n") (End ∷ EndModule ∷ [])
ends_read = record { on = λ rest. ap (λ t. among (t ++ rest)) ends_parts ∙ ap (lines_said true) (two_read (codes "end") (codes "endmodule") rest (name_tested (codes "end") refl) (name_tested (codes "endmodule") refl)) }

-- ---- the whole

-- the title with all ports, and after it the parts of the text one by one
regrouped : (title inputs outputs end clock taken given held zero statements : List ℕ)
    → (title ++ (inputs ++ (outputs ++ ((end ++ clock) ++ (taken ++ (given ++ (held ++ zero))))))) ++ statements ≡ (title ++ ((inputs ++ outputs) ++ end)) ++ (clock ++ (taken ++ (given ++ (held ++ (zero ++ statements)))))
regrouped title inputs outputs end clock taken given held zero statements = simp (append_assoc)

pub module_read : (n : Names) (c : CircuitParts) (registers : List Register) (outputs : List Literal) → AreReadable n → AreLines (file_lines c registers outputs)
    → read_module (verilog_text n c registers outputs) ≡ module_lines n c registers outputs
unfolding head_text declarations_text steps_text
module_read n c registers outputs is are = ap before text ∙ whole before among _ _ refl reads
  where
    held : List Bit
    held = flat_map bits_of_word n.registers.now

    taken : List Bit
    taken = flat_map bits_of_word n.inputs.now

    given : List Bit
    given = flat_map bits_of_word n.outputs.now

    inputs : ℕ
    inputs = c.inputs - length registers

    middle : AreLines (register_lines inputs registers) × AreLines (map output_numbers outputs ++ map gate_numbers (reverse c.gates))
    middle =
        lines_apart (register_lines inputs registers) (map output_numbers outputs ++ map gate_numbers (reverse c.gates))
        (lines_apart (input_lines inputs) (register_lines inputs registers ++ (map output_numbers outputs ++ map gate_numbers (reverse c.gates))) are.1).1

    ends : AreLines (map output_numbers outputs) × AreLines (map gate_numbers (reverse c.gates))
    ends = lines_apart (map output_numbers outputs) (map gate_numbers (reverse c.gates)) middle.1

    wires_proper : AreProper (wires 1 (taken ++ held))
    wires_proper =
        wires_are 1 (taken ++ held) (all_joined IsBit taken held (names_are n.inputs.now is.inputs) (names_are n.registers.now is.registers)) (omega (arith, length-append taken held, is.few))

    statements : List ℕ
    statements =
        flat_map statement_text (wires 1 (taken ++ held)) ++ (flat_map statement_text (map And (reverse c.gates))
        ++ (flat_map statement_text (assigns 0 given outputs) ++ (codes "always @(posedge clock) begin\n" ++ (flat_map statement_text (takes 0 held registers) ++ codes "end\nendmodule\n"))))

    behind : List ℕ
    behind =
        clock_text ++ (flat_map (declaration_text (codes "input")) n.inputs.now ++ (flat_map (declaration_text (codes "output")) n.outputs.now ++ (flat_map (declaration_text (codes "reg")) n.registers.now ++ (codes "wire n0 = 1'b0;\n" ++ statements))))

    text : verilog_text n c registers outputs ≡ (title_text n ++ (flat_map port_text (n.inputs.now ++ n.outputs.now) ++ codes ");\n")) ++ behind
    text =
        regrouped (title_text n) (flat_map port_text n.inputs.now) (flat_map port_text n.outputs.now) (codes ");\n") clock_text (flat_map (declaration_text (codes "input")) n.inputs.now) (flat_map (declaration_text (codes "output")) n.outputs.now)
        (flat_map (declaration_text (codes "reg")) n.registers.now) (codes "wire n0 = 1'b0;\n") statements
        ∙ ap (λ t. (title_text n ++ (t ++ codes ");\n")) ++ behind) (sym (flat_map-append port_text n.inputs.now n.outputs.now))

    reads : Reads before among ((title_text n ++ (flat_map port_text (n.inputs.now ++ n.outputs.now) ++ codes ");\n")) ++ behind) (module_lines n c registers outputs)
    reads =
        let comes = declarations_read (codes "input") n.inputs.now (name_tested (codes "input") refl) (λ words lines. refl) is.inputs in
        let goes = declarations_read (codes "output") n.outputs.now (name_tested (codes "output") refl) (λ words lines. refl) is.outputs in
        let keeps = declarations_read (codes "reg") n.registers.now (name_tested (codes "reg") refl) (λ words lines. refl) is.registers in
        let body = joined (wires_read 1 (taken ++ held) wires_proper) (joined (gates_said (reverse c.gates) (gates_are (reverse c.gates) ends.1)) (joined (assigns_read 0 given outputs (assigns_are 0 given outputs (names_are n.outputs.now is.outputs) ends.0))
        (joined always_read (joined (takes_read 0 held registers (takes_are 0 inputs held registers (names_are n.registers.now is.registers) middle.0)) ends_read)))) in
        joined (title_read n (n.inputs.now ++ n.outputs.now) is (all_joined IsReadable n.inputs.now n.outputs.now is.inputs is.outputs)) (joined clock_read (joined comes (joined goes (joined keeps (joined zero_read body)))))
