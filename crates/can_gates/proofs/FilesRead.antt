-- AIGER files, read from their bytes.
use Rattle.std.proofs.Common.{◌≡◌, ℕ, zero, suc, ◌+◌, ◌-◌, ◌*◌, ◌^◌, ◌<◌, ◌≤◌, List, [], ◌∷◌, ◌++◌, length, map, reverse, take, decimal, codes, refl, ◌∙◌, ap, ap₂, arith, append_assoc}
use Rattle.std.specs.List.{flat_map}
use Rattle.std.proofs.lemmas.Bool.{ne_eqb}
use Rattle.std.proofs.lemmas.List.{length-append, length-map}
use Rattle.std.proofs.lemmas.List.Concat.{flat_map-append}
use Rattle.can_gates.specs.declared.literal.Literal.{Literal}
use Rattle.can_gates.specs.declared.circuit.Gate.{Gate}
use Rattle.can_gates.specs.declared.register.Register.{Register}
use Rattle.can_gates.specs.Circuit.{CircuitParts}
use Rattle.can_gates.specs.Aiger.{literal_code, gate_numbers, input_lines, line_text, numbers_in, file_lines, numbers_behind, output_numbers, register_lines}
use Rattle.can_gates.specs.AigerNumbers.{AreLines, AreSmall}
use Rattle.can_gates.specs.Ordered.{IsOrdered}
use Rattle.can_gates.proofs.AigerLines.{lines_before}
use Rattle.can_gates.specs.declared.files.words.Names.{Names}
use Rattle.can_gates.specs.Named.{ascii_text, names_text}
use Rattle.can_gates.specs.Binary.{binary_text, gate_bytes, gates_in, groups, number_in, register_numbers}
use Rattle.can_gates.specs.Statements.{IsName, words_by_line}
use Rattle.can_gates.specs.Readable.{AreReadable}
use Rattle.can_gates.specs.Files.{AsciiFile, BinaryFile, all_numbers, ascii_by, behind_gates, behind_lines, binary_by, binary_lines, header_line, names_lines, read_ascii, read_binary}
use Rattle.can_gates.proofs.Reading.{decimal_name}
use Rattle.can_gates.proofs.Groups.{AreNumbered, bit-small, gates_read, numbered, ten_groups}
use Rattle.can_gates.proofs.Proper.{lines_apart, registers_are}
use Rattle.can_gates.proofs.NamesRead.{names_read}

-- ---- lines of numbers, and what follows them

name_passed : (n : ℕ) (name rest : List ℕ) → IsName name → behind_lines (suc n) (name ++ rest) ≡ behind_lines (suc n) rest
name_passed n [] rest is = refl
name_passed n (c ∷ name) rest is = rw (ne_eqb c 10 is.0) (name_passed n name rest is.3)

numbers_passed : (n : ℕ) (numbers rest : List ℕ) → AreSmall numbers → behind_lines (suc n) (numbers_behind numbers ++ rest) ≡ behind_lines n rest
numbers_passed n [] rest are = refl
numbers_passed n (m ∷ numbers) rest are =
    ap (behind_lines (suc n)) (append_assoc (decimal m) (numbers_behind numbers) rest) ∙ name_passed n (decimal m) (numbers_behind numbers ++ rest) (decimal_name m are.0) ∙ numbers_passed n numbers rest are.1

lines_passed : (lines : List (List ℕ)) (rest : List ℕ) → AreLines lines → behind_lines (length lines) (flat_map line_text lines ++ rest) ≡ rest
lines_passed [] rest are = refl
lines_passed ([] ∷ lines) rest are = absurd are.0
lines_passed ((m ∷ numbers) ∷ lines) rest are =
    let more = flat_map line_text lines in
    ap (behind_lines (suc (length lines))) (append_assoc (line_text (m ∷ numbers)) more rest ∙ append_assoc (decimal m) (numbers_behind numbers) (more ++ rest))
    ∙ name_passed (length lines) (decimal m) (numbers_behind numbers ++ (more ++ rest)) (decimal_name m are.0.0) ∙ numbers_passed (length lines) numbers (more ++ rest) are.0.1 ∙ lines_passed lines rest are.1

front : {X : Type 0} (a b : List X) → take (length a) (a ++ b) ≡ a
front [] b = refl
front (x ∷ a) b = ap (λ l. x ∷ l) (front a b)

-- ---- the ascii format

input_count : (n : ℕ) → length (input_lines n) ≡ n
input_count zero = refl
input_count (suc n) = length-append (input_lines n) ((2 * (n + 1) ∷ []) ∷ []) ∙ ap (λ k. k + 1) (input_count n) ∙ (let e : n + 1 ≡ suc n = omega arith in e)

register_count : (s : ℕ) (registers : List Register) → length (register_lines s registers) ≡ length registers
register_count s [] = refl
register_count s (r ∷ registers) = ap suc (register_count (s + 1) registers)

line_count : (c : CircuitParts) (registers : List Register) (outputs : List Literal)
    → 1 + (c.inputs - length registers + (length registers + (length outputs + length (reverse c.gates)))) ≡ length (file_lines c registers outputs)
line_count c registers outputs =
    let inputs = c.inputs - length registers in
    let gates = reverse c.gates in
    let a = input_lines inputs in
    let b = register_lines inputs registers in
    omega (
      arith,
      length-append a (b ++ (map output_numbers outputs ++ map gate_numbers gates)),
      length-append b (map output_numbers outputs ++ map gate_numbers gates),
      length-append (map output_numbers outputs) (map gate_numbers gates),
      input_count inputs,
      register_count inputs registers,
      length-map outputs output_numbers,
      length-map gates gate_numbers,
    )

abbrev ascii_file : List (List ℕ) → List (List (List ℕ)) → AsciiFile
ascii_file numbers names = record { numbers = numbers; names = names }

pub ascii_read : (n : Names) (c : CircuitParts) (registers : List Register) (outputs : List Literal) → AreReadable n → AreLines (file_lines c registers outputs)
    → read_ascii (ascii_text n c registers outputs) ≡ record { numbers = file_lines c registers outputs; names = names_lines n }
ascii_read n c registers outputs is are =
    let lines = file_lines c registers outputs in
    let text : List ℕ = ascii_text n c registers outputs in
    let all : all_numbers text ≡ lines ++ numbers_in [] 0 (names_text n) = lines_before lines (names_text n) are in
    let numbers : take (length lines) (all_numbers text) ≡ lines = ap (take (length lines)) all ∙ front lines (numbers_in [] 0 (names_text n)) in
    let behind : behind_lines (length lines) text ≡ names_text n = lines_passed lines (names_text n) are in
    ap (λ h. ascii_by h text) (ap header_line all)
    ∙ ap (λ k. ascii_file (take k (all_numbers text)) (words_by_line [] [] (behind_lines k text))) (line_count c registers outputs)
    ∙ ap₂ ascii_file numbers (ap (words_by_line [] []) behind ∙ names_read n is)

-- ---- the binary format

gates_passed : (s : ℕ) (gates : List Gate) (behind : List ℕ) → AreNumbered s gates → behind_gates (length gates) (flat_map gate_bytes gates ++ behind) ≡ behind
gates_passed s [] behind are = refl
gates_passed s (g ∷ gates) behind are =
    let first = 2 * g.signal - literal_code g.left in
    let second = literal_code g.left - literal_code g.right in
    let more = flat_map gate_bytes gates ++ behind in
    let begins : number_in (flat_map gate_bytes (g ∷ gates) ++ behind) ≡ (first, groups 9 second ++ more) =
    ap number_in (append_assoc (gate_bytes g) (flat_map gate_bytes gates) behind ∙ append_assoc (groups 9 first) (groups 9 second) more) ∙ ten_groups first (groups 9 second ++ more) (omega (arith, are.3)) in
    let ends : number_in (groups 9 second ++ more) ≡ (second, more) = ten_groups second more (omega (arith, are.3, are.1, bit-small g.left.negated)) in
    ap (λ (p : ℕ × List ℕ). behind_gates (length gates) (number_in p.1).1) begins ∙ ap (λ (p : ℕ × List ℕ). behind_gates (length gates) p.1) ends ∙ gates_passed (s + 1) gates behind are.4

lines_joined : (a b : List (List ℕ)) → AreLines a → AreLines b → AreLines (a ++ b)
lines_joined [] b first second = second
lines_joined (l ∷ a) b first second = (first.0, lines_joined a b first.1 second)

grouped : (header : List ℕ) (a b : List (List ℕ)) (rest : List ℕ) → line_text header ++ (flat_map line_text a ++ (flat_map line_text b ++ rest)) ≡ flat_map line_text (header ∷ (a ++ b)) ++ rest
grouped header a b rest = simp (flat_map-append, append_assoc)

binary_count : (c : CircuitParts) (registers : List Register) (outputs : List Literal) → 1 + (length registers + length outputs) ≡ length (binary_lines c registers outputs)
binary_count c registers outputs =
    omega (arith, length-append (map register_numbers registers) (map output_numbers outputs), length-map registers register_numbers, length-map outputs output_numbers)

binary_small : (c : CircuitParts) (registers : List Register) (outputs : List Literal) → AreLines (file_lines c registers outputs) → AreLines (binary_lines c registers outputs)
binary_small c registers outputs are =
    let inputs = c.inputs - length registers in
    let gates = map gate_numbers (reverse c.gates) in
    let held = lines_apart (register_lines inputs registers) (map output_numbers outputs ++ gates) (lines_apart (input_lines inputs) (register_lines inputs registers ++ (map output_numbers outputs ++ gates)) are.1).1 in
    let given = lines_apart (map output_numbers outputs) gates held.1 in
    (are.0, lines_joined (map register_numbers registers) (map output_numbers outputs) (registers_are inputs registers held.0) given.0)

abbrev binary_file : List (List ℕ) → List Gate → List (List (List ℕ)) → BinaryFile
binary_file numbers gates names = record { numbers = numbers; gates = gates; names = names }

pub binary_read : (n : Names) (c : CircuitParts) (registers : List Register) (outputs : List Literal) → AreReadable n → AreLines (file_lines c registers outputs)
    → IsOrdered c.inputs c.highest c.gates → c.highest < 2 ^ 32 → length registers ≤ c.inputs
    → read_binary (binary_text n c registers outputs) ≡ record { numbers = binary_lines c registers outputs; gates = reverse c.gates; names = names_lines n }
binary_read n c registers outputs is lines_are ordered fits within =
    let lines = binary_lines c registers outputs in
    let gates = reverse c.gates in
    let are : AreLines lines = binary_small c registers outputs lines_are in
    let some = length gates in
    let order = numbered c.inputs c.highest c.gates ordered fits in
    let bytes : List ℕ = flat_map gate_bytes gates ++ names_text n in
    let text : List ℕ = codes "aig " ++ (flat_map line_text lines ++ bytes) in
    let apart : binary_text n c registers outputs ≡ text =
    ap (λ t. codes "aig " ++ t) (grouped (c.highest ∷ (c.inputs - length registers) ∷ length registers ∷ length outputs ∷ some ∷ []) (map register_numbers registers) (map output_numbers outputs) bytes) in
    let all : all_numbers text ≡ lines ++ numbers_in [] 0 bytes = lines_before lines bytes are in
    let numbers : take (length lines) (all_numbers text) ≡ lines = ap (take (length lines)) all ∙ front lines (numbers_in [] 0 bytes) in
    let behind : behind_lines (length lines) text ≡ bytes = lines_passed lines bytes are in
    let signal : c.inputs - length registers + length registers + 1 ≡ c.inputs + 1 = omega (arith, within) in
    let made : gates_in some (c.inputs + 1) bytes ≡ gates = gates_read (c.inputs + 1) gates (names_text n) order in
    let named : words_by_line [] [] (behind_gates some bytes) ≡ names_lines n = ap (words_by_line [] []) (gates_passed (c.inputs + 1) gates (names_text n) order) ∙ names_read n is in
    ap read_binary apart ∙ ap (λ h. binary_by h text) (ap header_line all)
    ∙ ap₂ (λ k s. binary_file (take k (all_numbers text)) (gates_in some s (behind_lines k text)) (words_by_line [] [] (behind_gates some (behind_lines k text)))) (binary_count c registers outputs) signal
    ∙ ap₂ (λ l b. binary_file l (gates_in some (c.inputs + 1) b) (words_by_line [] [] (behind_gates some b))) numbers behind ∙ ap₂ (binary_file lines) made named
