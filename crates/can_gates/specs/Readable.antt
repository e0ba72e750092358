-- Names that can be recovered: no name has a newline, a space or a semicolon, that of a word does not begin with a bracket, and each meaning is one
-- line.
use Rattle.std.specs.Prelude.{ℕ, ◌≡◌, ◌==◌, ◌+◌, ◌<◌, ◌^◌, Bool, false, List, [], ◌∷◌, length}
use Rattle.std.specs.List.{flat_map, AllByRecursion}
use Rattle.can_gates.specs.declared.files.words.Word.{Word}
use Rattle.can_gates.specs.declared.files.words.Names.{Names}
use Rattle.can_gates.specs.Names.{bits_of_word}
use Rattle.can_gates.specs.Statements.{IsOneLine, IsName}

-- a word begins as a range, such as [28:0]
abbrev pub is_width : List ℕ → Bool
is_width [] = false
is_width (c ∷ word) = c == 91

-- a word that can be recovered: it has at least one bit, and fewer than 2^64
pub record IsReadable (w : Word) : Type 0 where
  pub name : IsName w.name.now
  pub no_width : is_width w.name.now ≡ false
  pub meaning : IsOneLine w.meaning.now
  pub some : 0 < w.places
  pub few : w.places < 2 ^ 64

-- how many literals these words have
abbrev pub names_of : List Word → ℕ
names_of words = length (flat_map bits_of_word words)

-- the names of a file that can be recovered: they have fewer than 2^32 bits
pub record AreReadable (n : Names) : Type 0 where
  pub circuit : IsName n.circuit.now
  pub meaning : IsOneLine n.meaning.now
  pub inputs : AllByRecursion IsReadable n.inputs.now
  pub registers : AllByRecursion IsReadable n.registers.now
  pub outputs : AllByRecursion IsReadable n.outputs.now
  pub few : names_of n.inputs.now + names_of n.registers.now + names_of n.outputs.now < 2 ^ 32
