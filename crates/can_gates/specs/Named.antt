-- The names of an AIGER file: a line for each input, register and output, and a comment with the meaning of words.
use Rattle.std.specs.Prelude.{ℕ, ◌+◌, ◌^◌, ◌<◌, List, [], ◌∷◌, ◌++◌, codes, decimal}
use Rattle.std.specs.List.{flat_map}
use Rattle.can_gates.specs.declared.literal.Literal.{Literal}
use Rattle.can_gates.specs.declared.register.Register.{Register}
use Rattle.can_gates.specs.Circuit.{CircuitParts}
use Rattle.can_gates.specs.Aiger.{aiger_text}
use Rattle.can_gates.specs.declared.files.words.Word.{Word}
use Rattle.can_gates.specs.declared.files.words.Names.{Names}
use Rattle.can_gates.specs.declared.files.words.Bit.{Bit}
use Rattle.can_gates.specs.Names.{bits_of_word, bit_text}
use Rattle.can_gates.specs.Statements.{IsName}

-- the name of an input, a register or an output: the letter i, l or o, and its index among these
pub record Symbol : Type 0 where
  pub kind : List ℕ
  pub place : ℕ
  pub name : List ℕ

-- the names of these bits, with indices from p on
abbrev pub symbols : List ℕ → ℕ → List Bit → List Symbol
symbols kind p [] = []
symbols kind p (b ∷ bits) = record { kind = kind; place = p; name = bit_text b } ∷ symbols kind (p + 1) bits

-- the line of a name
abbrev pub symbol_text : Symbol → List ℕ
symbol_text s = s.kind ++ (decimal s.place ++ (codes " " ++ (s.name ++ codes "\n")))

-- the line of a meaning
abbrev pub meaning_line : List ℕ → List ℕ → List ℕ
meaning_line name meaning = name ++ (codes ": " ++ (meaning ++ codes "\n"))

abbrev pub meaning_text : Word → List ℕ
meaning_text w = meaning_line w.name.now w.meaning.now

-- the comment: the circuit and its words, with their meaning
abbrev pub comment_text : Names → List ℕ
comment_text n =
    codes "c\n" ++ (meaning_line n.circuit.now n.meaning.now ++ (flat_map meaning_text n.inputs.now ++ (flat_map meaning_text n.registers.now ++ flat_map meaning_text n.outputs.now)))

-- all names and the comment
abbrev pub names_text : Names → List ℕ
names_text n =
    flat_map symbol_text (symbols (codes "i") 0 (flat_map bits_of_word n.inputs.now)) ++ (flat_map symbol_text (symbols (codes "l") 0 (flat_map bits_of_word n.registers.now))
    ++ (flat_map symbol_text (symbols (codes "o") 0 (flat_map bits_of_word n.outputs.now)) ++ comment_text n))

-- a whole ASCII file
abbrev pub ascii_text : Names → CircuitParts → List Register → List Literal → List ℕ
ascii_text n c registers outputs = aiger_text c registers outputs ++ names_text n

-- ---- how the reader of lines reads them

abbrev pub symbol_words : Symbol → List (List ℕ)
symbol_words s = (s.kind ++ decimal s.place) ∷ s.name ∷ []

-- the letters and names have no newline, space or semicolon, and indices are below 2^64
abbrev pub AreSymbols : List Symbol → Type 0
AreSymbols [] = Unit {0}
AreSymbols (s ∷ symbols) = IsName s.kind × (s.place < 2 ^ 64) × IsName s.name × AreSymbols symbols
