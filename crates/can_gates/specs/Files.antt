-- Readers of AIGER files: the numbers of their lines, the header first; their gates; and the words of the lines after these.
use Rattle.std.specs.Prelude.{ℕ, zero, suc, ◌+◌, ◌==◌, if◌then◌else◌, List, [], ◌∷◌, ◌++◌, map, take, drop, codes}
use Rattle.std.specs.List.{flat_map}
use Rattle.can_gates.specs.declared.literal.Literal.{Literal}
use Rattle.can_gates.specs.declared.circuit.Gate.{Gate}
use Rattle.can_gates.specs.declared.register.Register.{Register}
use Rattle.can_gates.specs.Circuit.{CircuitParts}
use Rattle.can_gates.specs.Aiger.{header, numbers_in, output_numbers}
use Rattle.can_gates.specs.declared.files.words.Word.{Word}
use Rattle.can_gates.specs.declared.files.words.Names.{Names}
use Rattle.can_gates.specs.Names.{bits_of_word}
use Rattle.can_gates.specs.Statements.{words_by_line, words_in}
use Rattle.can_gates.specs.Named.{symbol_words, symbols}
use Rattle.can_gates.specs.Binary.{gates_in, number_in, register_numbers}

-- what is read from an ASCII file
pub record AsciiFile : Type 0 where
  pub numbers : List (List ℕ)
  pub names : List (List (List ℕ))

-- what is read from a binary file
pub record BinaryFile : Type 0 where
  pub numbers : List (List ℕ)
  pub gates : List Gate
  pub names : List (List (List ℕ))

-- the text after its first n lines
abbrev pub behind_lines : ℕ → List ℕ → List ℕ
behind_lines zero text = text
behind_lines (suc n) [] = []
behind_lines (suc n) (c ∷ text) = if c == 10 then behind_lines n text else behind_lines (suc n) text

-- the bytes after n gates
abbrev pub behind_gates : ℕ → List ℕ → List ℕ
behind_gates zero bytes = bytes
behind_gates (suc n) bytes = behind_gates n (number_in (number_in bytes).1).1

-- the numbers of each line, after `aag` or `aig` and a space
abbrev pub all_numbers : List ℕ → List (List ℕ)
all_numbers text = numbers_in [] 0 (drop 4 text)

-- those of the header: the highest signal, and how many inputs, registers, outputs and gates there are
abbrev pub header_line : List (List ℕ) → List ℕ
header_line [] = []
header_line (l ∷ lines) = l

-- the ASCII format, by its header: a line for each input, register, output and gate, then the names
abbrev pub ascii_by : List ℕ → List ℕ → AsciiFile
ascii_by (highest ∷ inputs ∷ registers ∷ outputs ∷ gates ∷ []) text =
    let lines = 1 + (inputs + (registers + (outputs + gates))) in record { numbers = take lines (all_numbers text); names = words_by_line [] [] (behind_lines lines text) }
ascii_by header text = record { numbers = []; names = [] }

-- an ASCII file as it is read
abbrev pub read_ascii : List ℕ → AsciiFile
read_ascii text = ascii_by (header_line (all_numbers text)) text

-- the binary format, by its header: a line for each register and output, then the gates, whose signals follow inputs and registers, then the names
abbrev pub binary_by : List ℕ → List ℕ → BinaryFile
binary_by (highest ∷ inputs ∷ registers ∷ outputs ∷ gates ∷ []) text =
    let lines = 1 + (registers + outputs) in
    let bytes = behind_lines lines text in
    record { numbers = take lines (all_numbers text); gates = gates_in gates (inputs + registers + 1) bytes; names = words_by_line [] [] (behind_gates gates bytes) }
binary_by header text = record { numbers = []; gates = []; names = [] }

-- a binary file as it is read
abbrev pub read_binary : List ℕ → BinaryFile
read_binary text = binary_by (header_line (all_numbers text)) text

-- ---- what is read back

-- the words of a line of meaning: the name, with a colon, and the words of the meaning
abbrev pub meaning_words : List ℕ → List ℕ → List (List ℕ)
meaning_words name meaning = (name ++ codes ":") ∷ words_in [] meaning

abbrev pub word_meaning : Word → List (List ℕ)
word_meaning w = meaning_words w.name.now w.meaning.now

-- the words of the lines of names: i0 and a name, l0 and a name, o0 and a name; then those of the comment
abbrev pub symbol_lines : List ℕ → List Word → List (List (List ℕ))
symbol_lines kind words = map symbol_words (symbols kind 0 (flat_map bits_of_word words))

abbrev pub names_lines : Names → List (List (List ℕ))
names_lines n =
    symbol_lines (codes "i") n.inputs.now ++ (symbol_lines (codes "l") n.registers.now ++ (symbol_lines (codes "o") n.outputs.now
    ++ ((codes "c" ∷ []) ∷ meaning_words n.circuit.now n.meaning.now ∷ (map word_meaning n.inputs.now ++ (map word_meaning n.registers.now ++ map word_meaning n.outputs.now)))))

-- the lines of a binary file: header, registers and outputs
abbrev pub binary_lines : CircuitParts → List Register → List Literal → List (List ℕ)
binary_lines c registers outputs = header c registers outputs ∷ (map register_numbers registers ++ map output_numbers outputs)
