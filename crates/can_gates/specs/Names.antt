-- The names of a circuit's literals: a word is a name of several literals; `told[2]` is the third of those with the name `told`.
use Rattle.std.specs.Prelude.{ℕ, zero, suc, ◌==◌, if◌then◌else◌, List, [], ◌∷◌, ◌++◌, Option, Some, None, codes, decimal}
use Rattle.can_gates.specs.declared.files.words.Word.{Word}
use Rattle.can_gates.specs.declared.files.words.Bit.{Bit}

-- the names of the first n bits of a word
abbrev pub numbered : Word → ℕ → List Bit
numbered w zero = []
numbered w (suc n) = numbered w n ++ record { name = w.name; place = Some n } ∷ []

-- those of a whole word: a single bit has no index after its name
abbrev pub bits_of_word : Word → List Bit
bits_of_word w = if w.places == 1 then record { name = w.name; place = None } ∷ [] else numbered w w.places

abbrev pub place_text : Option ℕ → List ℕ
place_text None = []
place_text (Some place) = codes "[" ++ (decimal place ++ codes "]")

abbrev pub bit_text : Bit → List ℕ
bit_text b = b.name.now ++ place_text b.place
