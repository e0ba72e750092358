-- For the writers of files: the names of all literals of a file, and a text that is written piece by piece.
use Rattle.std.specs.Prelude.{ℕ, ◌≡◌, ◌++◌, true, List}
use Rattle.std.specs.List.{flat_map}
use Rattle.can_gates.specs.declared.files.text.Text.{Text}
use Rattle.can_gates.specs.declared.files.words.AllBits.{AllBits}
use Rattle.can_gates.specs.declared.files.words.Names.{Names}
use Rattle.can_gates.specs.Names.{bits_of_word}

-- the names of all bits of a file
pub record AreBitsOf (n : Names) (b : AllBits) : Type 0 where
  pub inputs : b.inputs.items ≡ flat_map bits_of_word n.inputs.now
  pub registers : b.registers.items ≡ flat_map bits_of_word n.registers.now
  pub outputs : b.outputs.items ≡ flat_map bits_of_word n.outputs.now

-- if a text is complete after a piece, it was complete before, and ends with the piece
abbrev pub Writes : Text → Text → List ℕ → Type 0
Writes old new piece = new.complete ≡ true → (old.complete ≡ true) × (new.bytes.items ≡ old.bytes.items ++ piece)
