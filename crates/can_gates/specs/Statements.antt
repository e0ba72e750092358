-- Statements of Verilog-2001, each on a line, in three forms: a wire that is a name or the AND of two literals, the assignment of an output, and the
-- next value of a register. To believe is that Verilog takes them in this meaning: ~ is negation, & is AND, and the signals have the names n0, n1 and
-- so on.
use Rattle.std.specs.Prelude.{ℕ, ◌^◌, ◌<◌, ◌≢◌, ◌==◌, if◌then◌else◌, true, false, List, [], ◌∷◌, ◌++◌, drop, Option, Some, None, codes, decimal}
use Rattle.std.specs.Str.{bytes_eq}
use Rattle.std.specs.Str.Parse.{digits_value}
use Rattle.can_gates.specs.declared.literal.Literal.{Literal}
use Rattle.can_gates.specs.Circuit.{never}
use Rattle.can_gates.specs.declared.circuit.Gate.{Gate}

pub data Statement : Type 0 where
  Wire : (signal : ℕ) (name : List ℕ) → Statement
  And : (gate : Gate) → Statement
  Assign : (name : List ℕ) (literal : Literal) → Statement
  Take : (name : List ℕ) (literal : Literal) → Statement

-- ---- their texts

abbrev pub literal_text : Literal → List ℕ
literal_text l = (if l.negated then codes "~n" else codes "n") ++ decimal l.signal

abbrev pub statement_text : Statement → List ℕ
statement_text (Wire s name) = codes "wire n" ++ (decimal s ++ (codes " = " ++ (name ++ codes ";\n")))
statement_text (And g) = codes "wire n" ++ (decimal g.signal ++ (codes " = " ++ (literal_text g.left ++ (codes " & " ++ (literal_text g.right ++ codes ";\n")))))
statement_text (Assign name l) = codes "assign " ++ (name ++ (codes " = " ++ (literal_text l ++ codes ";\n")))
statement_text (Take name l) = name ++ (codes " <= " ++ (literal_text l ++ codes ";\n"))

-- ---- a reader of such texts

-- the lines of a text, each a list of words, after these words of its first line and this beginning of a word: a newline ends a line, a space a word,
-- and a semicolon is skipped
abbrev pub words_by_line : List (List ℕ) → List ℕ → List ℕ → List (List (List ℕ))
words_by_line words word [] = []
words_by_line words word (c ∷ text) =
    if c == 10 then (words ++ word ∷ []) ∷ words_by_line [] [] text
    else if c == 32 then words_by_line (words ++ word ∷ []) [] text
    else (if c == 59 then words_by_line words word text else words_by_line words (word ++ c ∷ []) text)

-- the words of one line, after this beginning of a word
abbrev pub words_in : List ℕ → List ℕ → List (List ℕ)
words_in word [] = word ∷ []
words_in word (c ∷ line) = if c == 32 then word ∷ words_in [] line else (if c == 59 then words_in word line else words_in (word ++ c ∷ []) line)

-- the number of a signal, given its name
abbrev pub signal_in : List ℕ → ℕ
signal_in word = digits_value 10 (drop 1 word)

-- a literal is negated if its name begins with ~
abbrev pub literal_in : List ℕ → Literal
literal_in [] = never
literal_in (c ∷ word) = if c == 126 then record { signal = signal_in word; negated = true } else record { signal = signal_in (c ∷ word); negated = false }

-- the statement of a line, by its number of words
abbrev pub statement_in : List (List ℕ) → Option Statement
statement_in (name ∷ becomes ∷ literal ∷ []) = Some (Take name (literal_in literal))
statement_in (kind ∷ name ∷ equals ∷ other ∷ []) = Some (if bytes_eq kind (codes "assign") then Assign name (literal_in other) else Wire (signal_in name) other)
statement_in (kind ∷ name ∷ equals ∷ left ∷ and ∷ right ∷ []) = Some (And (record { signal = signal_in name; left = literal_in left; right = literal_in right }))
statement_in words = None

-- ---- what is read back

-- no byte of a name is a newline, a space or a semicolon
abbrev pub IsName : List ℕ → Type 0
IsName [] = Unit {0}
IsName (c ∷ name) = (c ≢ 10) × (c ≢ 32) × (c ≢ 59) × IsName name

-- no byte of a line is a newline
abbrev pub IsOneLine : List ℕ → Type 0
IsOneLine [] = Unit {0}
IsOneLine (c ∷ line) = (c ≢ 10) × IsOneLine line

-- numbers are below 2^64, and names have no newline, space or semicolon
abbrev pub IsProper : Statement → Type 0
IsProper (Wire s name) = (s < 2 ^ 64) × IsName name
IsProper (And g) = (g.signal < 2 ^ 64) × (g.left.signal < 2 ^ 64) × (g.right.signal < 2 ^ 64)
IsProper (Assign name l) = IsName name × (l.signal < 2 ^ 64)
IsProper (Take name l) = IsName name × (l.signal < 2 ^ 64)

abbrev pub AreProper : List Statement → Type 0
AreProper [] = Unit {0}
AreProper (s ∷ statements) = IsProper s × AreProper statements
