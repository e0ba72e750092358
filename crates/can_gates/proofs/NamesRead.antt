-- The names of an AIGER file, read from their texts.
use Rattle.std.proofs.Common.{◌≡◌, ℕ, ◌^◌, ◌<◌, List, [], ◌∷◌, ◌++◌, map, decimal, codes, refl, ◌∙◌, ap, arith, append_assoc}
use Rattle.std.specs.List.{flat_map, AllByRecursion}
use Rattle.can_gates.specs.declared.files.words.Word.{Word}
use Rattle.can_gates.specs.declared.files.words.Names.{Names}
use Rattle.can_gates.specs.Names.{bits_of_word}
use Rattle.can_gates.specs.Named.{Symbol, AreSymbols, meaning_line, meaning_text, names_text, symbol_text, symbol_words, symbols}
use Rattle.can_gates.specs.Statements.{words_by_line, IsOneLine, IsName}
use Rattle.can_gates.specs.Readable.{AreReadable, IsReadable, names_of}
use Rattle.can_gates.specs.Files.{meaning_words, names_lines, symbol_lines, word_meaning}
use Rattle.can_gates.proofs.Blocks.{Reads, joined, nothing, whole}
use Rattle.can_gates.proofs.Reading.{decimal_name, line_read, part_read}
use Rattle.can_gates.proofs.Tested.{name_tested}
use Rattle.can_gates.proofs.Proper.{names_are, symbols_are}

-- what is read of a text at the beginning of a line
abbrev lines : List ℕ → List (List (List ℕ))
lines text = words_by_line [] [] text

symbol_read : (s : Symbol) → IsName s.kind → s.place < 2 ^ 64 → IsName s.name → Reads lines lines (symbol_text s) (symbol_words s ∷ [])
symbol_read s kind small name = record {
  on = λ rest.
      part_read [] [] s.kind (decimal s.place ++ (codes " " ++ (s.name ++ codes "\n"))) rest kind ∙ part_read [] s.kind (decimal s.place) (codes " " ++ (s.name ++ codes "\n")) rest (decimal_name s.place small)
      ∙ part_read ((s.kind ++ decimal s.place) ∷ []) [] s.name (codes "\n") rest name;
}

all_symbols : (s : List Symbol) → AreSymbols s → Reads lines lines (flat_map symbol_text s) (map symbol_words s)
all_symbols [] are = nothing lines
all_symbols (s ∷ symbols) are = joined (symbol_read s are.0 are.1 are.2) (all_symbols symbols are.3)

pub symbols_read : (s : List Symbol) → AreSymbols s → words_by_line [] [] (flat_map symbol_text s) ≡ map symbol_words s
symbols_read s are = whole lines lines _ _ refl (all_symbols s are)

-- ---- the comment

meaning_read : (name meaning : List ℕ) → IsName name → IsOneLine meaning → Reads lines lines (meaning_line name meaning) (meaning_words name meaning ∷ [])
meaning_read name meaning clear is = record {
  on = λ rest.
      let begun = (name ++ codes ":") ∷ [] in
      part_read [] [] name (codes ": " ++ (meaning ++ codes "\n")) rest clear ∙ ap (words_by_line begun []) (append_assoc meaning (codes "\n") rest) ∙ line_read begun [] meaning rest is;
}

meanings_read : (words : List Word) → AllByRecursion IsReadable words → Reads lines lines (flat_map meaning_text words) (map word_meaning words)
meanings_read [] are = nothing lines
meanings_read (w ∷ words) are = joined (meaning_read w.name.now w.meaning.now are.0.name are.0.meaning) (meanings_read words are.1)

begun_read : Reads lines lines (codes "c\n") ((codes "c" ∷ []) ∷ [])
begun_read = record { on = λ rest. refl }

pub names_read : (n : Names) → AreReadable n → words_by_line [] [] (names_text n) ≡ names_lines n
names_read n is =
    whole lines lines _ _ refl (joined (symbols_of (codes "i") n.inputs.now (name_tested (codes "i") refl) is.inputs (omega (arith, is.few))) (joined (symbols_of (codes "l") n.registers.now (name_tested (codes "l") refl) is.registers (omega (arith, is.few)))
    (joined (symbols_of (codes "o") n.outputs.now (name_tested (codes "o") refl) is.outputs (omega (arith, is.few)))
    (joined begun_read (joined (meaning_read n.circuit.now n.meaning.now is.circuit is.meaning) (joined (meanings_read n.inputs.now is.inputs) (joined (meanings_read n.registers.now is.registers) (meanings_read n.outputs.now is.outputs))))))))
  where
    symbols_of : (kind : List ℕ) (words : List Word) → IsName kind → AllByRecursion IsReadable words → names_of words < 2 ^ 64 → Reads lines lines (flat_map symbol_text (symbols kind 0 (flat_map bits_of_word words))) (symbol_lines kind words)
    symbols_of kind words known are few = all_symbols (symbols kind 0 (flat_map bits_of_word words)) (symbols_are kind 0 (flat_map bits_of_word words) known (names_are words are) (omega (arith, few)))
