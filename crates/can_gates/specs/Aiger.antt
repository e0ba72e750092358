-- A circuit with registers and outputs in the ASCII format of AIGER 1.9, without names: a text of lines, each a list of numbers
use Rattle.std.specs.Prelude.{ℕ, zero, suc, ◌+◌, ◌-◌, ◌*◌, ◌==◌, if◌then◌else◌, List, [], ◌∷◌, ◌++◌, length, map, reverse, codes, decimal}
use Rattle.std.specs.List.{flat_map}
use Rattle.can_gates.specs.declared.literal.Literal.{Literal}
use Rattle.can_gates.specs.declared.circuit.Gate.{Gate}
use Rattle.can_gates.specs.declared.register.Register.{Register}
use Rattle.can_gates.specs.Circuit.{CircuitParts}
use Rattle.can_gates.specs.Words.{bit}

-- the number of a literal: twice its signal, plus 1 if it is negated
abbrev pub literal_code : Literal → ℕ
literal_code l = 2 * l.signal + bit l.negated

-- ---- the numbers of each line

-- the lines of the first n signals, which are inputs
abbrev pub input_lines : ℕ → List (List ℕ)
input_lines zero = []
input_lines (suc n) = input_lines n ++ (2 * (n + 1) ∷ []) ∷ []

-- the lines of registers, whose values are the signals after s: with their next and their initial values
abbrev pub register_lines : ℕ → List Register → List (List ℕ)
register_lines s [] = []
register_lines s (r ∷ registers) = (2 * (s + 1) ∷ literal_code r.next ∷ bit r.starts ∷ []) ∷ register_lines (s + 1) registers

-- the line of an output
abbrev pub output_numbers : Literal → List ℕ
output_numbers l = literal_code l ∷ []

-- the line of a gate
abbrev pub gate_numbers : Gate → List ℕ
gate_numbers g = 2 * g.signal ∷ literal_code g.left ∷ literal_code g.right ∷ []

-- the first line: the highest signal, and how many inputs, registers, outputs and gates there are. The last inputs of the circuit are the values of
-- the registers
abbrev pub header : CircuitParts → List Register → List Literal → List ℕ
header c registers outputs = c.highest ∷ (c.inputs - length registers) ∷ length registers ∷ length outputs ∷ length (reverse c.gates) ∷ []

-- the first line, and a line for each input, register, output and gate
abbrev pub file_lines : CircuitParts → List Register → List Literal → List (List ℕ)
file_lines c registers outputs =
    header c registers outputs
    ∷ input_lines (c.inputs - length registers) ++ (register_lines (c.inputs - length registers) registers ++ (map output_numbers outputs ++ map gate_numbers (reverse c.gates)))

-- ---- the text

-- the numbers after the first of a line
abbrev pub numbers_behind : List ℕ → List ℕ
numbers_behind [] = codes "\n"
numbers_behind (n ∷ ns) = codes " " ++ (decimal n ++ numbers_behind ns)

-- a line of numbers, with a space between two numbers
abbrev pub line_text : List ℕ → List ℕ
line_text [] = codes "\n"
line_text (n ∷ ns) = decimal n ++ numbers_behind ns

-- all lines of a circuit, after the name of the format
abbrev pub aiger_text : CircuitParts → List Register → List Literal → List ℕ
aiger_text c registers outputs = codes "aag " ++ flat_map line_text (file_lines c registers outputs)

-- ---- a reader of such texts

-- the lines of a text, after these numbers of its first line and this beginning of a number: a newline ends a line, a space a number, and a digit
-- continues a number
abbrev pub numbers_in : List ℕ → ℕ → List ℕ → List (List ℕ)
numbers_in ns n [] = []
numbers_in ns n (c ∷ text) = if c == 10 then (ns ++ n ∷ []) ∷ numbers_in [] 0 text else (if c == 32 then numbers_in (ns ++ n ∷ []) 0 text else numbers_in ns (10 * n + (c - 48)) text)
