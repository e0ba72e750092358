-- A reader of Verilog modules: what each line of their text says, given its words.
use Rattle.std.specs.Prelude.{ℕ, ◌+◌, ◌-◌, ◌||◌, if◌then◌else◌, Bool, true, false, List, [], ◌∷◌, ◌++◌, length, map, reverse, take, drop, Option, Some, None, codes}
use Rattle.std.specs.List.{flat_map}
use Rattle.std.specs.Str.{bytes_eq}
use Rattle.std.specs.Str.Parse.{digits_value}
use Rattle.can_gates.specs.declared.literal.Literal.{Literal}
use Rattle.can_gates.specs.declared.register.Register.{Register}
use Rattle.can_gates.specs.Circuit.{CircuitParts}
use Rattle.can_gates.specs.declared.files.words.Word.{Word}
use Rattle.can_gates.specs.declared.files.words.Names.{Names}
use Rattle.can_gates.specs.Names.{bits_of_word}
use Rattle.can_gates.specs.Statements.{Statement, Wire, And, words_by_line, statement_in, words_in}
use Rattle.can_gates.specs.Verilog.{assigns, takes, wires}
use Rattle.can_gates.specs.Readable.{is_width}

-- a line: a comment; the module's name and its ports; the declaration of a word, as input, output or reg, with its number of bits and a comment; a
-- statement; the beginning of the steps; the end of the steps, and of the module; a line that cannot be read
pub data Line : Type 0 where
  Comment : (words : List (List ℕ)) → Line
  Module : (name : List ℕ) (ports : List (List ℕ)) → Line
  Declaration : (kind : List ℕ) (places : ℕ) (name : List ℕ) (comment : List (List ℕ)) → Line
  Says : (statement : Statement) → Line
  Steps : (when : List (List ℕ)) → Line
  End : Line
  EndModule : Line
  Unread : Line

-- ---- a line

-- a word without its last n bytes
abbrev pub shortened : ℕ → List ℕ → List ℕ
shortened n word = take (length word - n) word

-- of "name(clock, a, b)": after the name comes the clock, and after each port a comma or the parenthesis
abbrev pub module_in : List (List ℕ) → Line
module_in [] = Unread
module_in (name ∷ ports) = Module (shortened 7 name) (map (shortened 1) ports)

-- the number of bits of "[28:0]": one more than the first number
abbrev pub places_in : List ℕ → ℕ
places_in width = digits_value 10 (shortened 3 (drop 1 width)) + 1

-- of "[28:0] name // comment" or "name // comment", after a kind
abbrev pub declaration_in : List ℕ → List (List ℕ) → Line
declaration_in kind [] = Unread
declaration_in kind (word ∷ []) = Unread
declaration_in kind (word ∷ next ∷ words) = if is_width word then Declaration kind (places_in word) next (drop 1 words) else Declaration kind 1 word words

-- the line of a statement, if it can be read
abbrev pub said : Option Statement → Line
said None = Unread
said (Some s) = Says s

-- a line before the steps
abbrev pub line_in : List (List ℕ) → Line
line_in [] = Unread
line_in (kind ∷ words) =
    if bytes_eq kind (codes "//") then Comment words
    else if bytes_eq kind (codes "module") then module_in words
    else if bytes_eq kind (codes "wire") || bytes_eq kind (codes "assign") then said (statement_in (kind ∷ words))
    else (if bytes_eq kind (codes "always") then Steps words else declaration_in kind words)

-- a line among the steps
abbrev pub step_line_in : List (List ℕ) → Line
step_line_in [] = Unread
step_line_in (word ∷ []) = if bytes_eq word (codes "end") then End else (if bytes_eq word (codes "endmodule") then EndModule else Unread)
step_line_in (word ∷ next ∷ words) = said (statement_in (word ∷ next ∷ words))

-- the line begins the steps
abbrev pub begins_steps : List (List ℕ) → Bool
begins_steps [] = false
begins_steps (kind ∷ words) = bytes_eq kind (codes "always")

-- ---- a module

-- the lines of a text, among the steps or before them
abbrev pub lines_said : Bool → List (List (List ℕ)) → List Line
lines_said steps [] = []
lines_said false (words ∷ lines) = line_in words ∷ lines_said (begins_steps words) lines
lines_said true (words ∷ lines) = step_line_in words ∷ lines_said true lines

-- a module as it is read
abbrev pub read_module : List ℕ → List Line
read_module text = lines_said false (words_by_line [] [] text)

-- ---- what is read back

abbrev pub word_name : Word → List ℕ
word_name w = w.name.now

-- the declaration of a word
abbrev pub declared : List ℕ → Word → Line
declared kind w = Declaration kind w.places w.name.now (words_in [] w.meaning.now)

-- the comment of the clock
unfoldable pub clock_meaning : List ℕ
clock_meaning = codes "with each rising edge the registers take their next values"

abbrev pub clock_line : Line
clock_line = Declaration (codes "input") 1 (codes "clock") (words_in [] clock_meaning)

-- all lines of the module of a circuit
abbrev pub module_lines : Names → CircuitParts → List Register → List Literal → List Line
module_lines n c registers outputs =
    let held = flat_map bits_of_word n.registers.now in
    Comment (words_in [] n.meaning.now) ∷ Module n.circuit.now (map word_name (n.inputs.now ++ n.outputs.now)) ∷ clock_line
    ∷ (map (declared (codes "input")) n.inputs.now ++ (map (declared (codes "output")) n.outputs.now ++ (map (declared (codes "reg")) n.registers.now
    ++ (Says (Wire 0 (codes "1'b0")) ∷ (map Says (wires 1 (flat_map bits_of_word n.inputs.now ++ held)) ++ (map Says (map And (reverse c.gates))
    ++ (map Says (assigns 0 (flat_map bits_of_word n.outputs.now) outputs)
    ++ (Steps (codes "@(posedge" ∷ codes "clock)" ∷ codes "begin" ∷ []) ∷ (map Says (takes 0 held registers) ++ (End ∷ EndModule ∷ []))))))))))
